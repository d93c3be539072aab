-- Laws on the digits of bytes, put into a text by twos.
use Rattle.std.proofs.Common.{◌≡◌, ℕ, ◌+◌, ◌*◌, ◌/◌, ◌%◌, ◌<◌, List, [], ◌∷◌, ◌++◌, length, take, drop, get_or, set, refl, ap, arith, append_assoc}
use Rattle.std.proofs.lemmas.List.{drop_more, take_more_set, length-set}
use Rattle.std.proofs.lemmas.Str.Ascii.{IsAscii-push}
use Rattle.std.specs.Char.{digit_char}
use Rattle.std.specs.Str.{IsAscii}
use Rattle.report.specs.HexText.{hex_text}

-- the text of a list in two parts
pub hex_text_append : (xs ys : List ℕ) → hex_text (xs ++ ys) ≡ hex_text xs ++ hex_text ys
hex_text_append [] ys = refl
hex_text_append (x ∷ xs) ys = ap (λ (l : List ℕ). digit_char (x / 16) ∷ digit_char (x % 16) ∷ l) (hex_text_append xs ys)

module _ (text : List ℕ) (i x y : ℕ) (fits : 2 * i + 1 < length text) where
  -- two writes in a row, seen from the front
  two_writes : take (2 * (i + 1)) (set (set text (2 * i) x) (2 * i + 1) y) ≡ (take (2 * i) text ++ (x ∷ [])) ++ (y ∷ [])
  two_writes =
      let two : 2 * (i + 1) ≡ 2 * i + 1 + 1 = omega arith in
      let long = length-set text (2 * i) x in
      let first = take_more_set text (2 * i) x (omega arith) in
      let second = take_more_set (set text (2 * i) x) (2 * i + 1) y (omega (arith, long)) in
      rw (two, second, first) refl

  -- they are ASCII
  pub ascii_next : x < 128 → y < 128 → IsAscii (take (2 * i) text) → IsAscii (take (2 * (i + 1)) (set (set text (2 * i) x) (2 * i + 1) y))
  ascii_next lx ly h = rw two_writes (IsAscii-push _ y (IsAscii-push _ x h lx) ly)

  -- they are the text of a byte more
  pub hex_text_next : (bytes : List ℕ) → i < length bytes → x ≡ digit_char (get_or bytes i 0 / 16) → y ≡ digit_char (get_or bytes i 0 % 16)
      → take (2 * i) text ++ hex_text (drop i bytes) ≡ hex_text bytes
      → take (2 * (i + 1)) (set (set text (2 * i) x) (2 * i + 1) y) ++ hex_text (drop (i + 1) bytes) ≡ hex_text bytes
  hex_text_next bytes h ex ey inv =
      let front : List ℕ = take (2 * i) text in
      let rest = drop_more bytes i 0 h in
      rw (two_writes, append_assoc (front ++ (x ∷ [])) (y ∷ []) _, append_assoc front (x ∷ []) _, ex, ey) (rw rest at inv)
