-- Ranges of numbers with their low bits free, and their two halves.
use mathlib.Core.Path.{◌≡◌, sym, ap, ◌∙◌, subst}
use Prim.Native.Nat.{ℕ, suc, ◌+◌, ◌-◌, ◌*◌, ◌%◌, ◌^◌, ◌<◌}
use native.Mathlib.Nat.{pow-suc, zero-mod, add-mod_right}
use native.Mathlib.Omega.{arith}
use lib.Pow.{mod-mod-pow}
use Rattle.rows.specs.Covers.{Node}

-- the whole is two halves
pub halves : (i : ℕ) → 0 < i → 2 ^ i ≡ 2 ^ (i - 1) + 2 ^ (i - 1)
halves i p =
    let e : 2 ^ suc (i - 1) ≡ 2 ^ (i - 1) * 2 = pow-suc 2 (i - 1) in
    let f : suc (i - 1) ≡ i = omega arith in
    let g : 2 ^ i ≡ 2 ^ suc (i - 1) = ap (λ (k : ℕ). 2 ^ k) (sym f) in
    omega arith

pub low_node : (i s : ℕ) → Node i s → 0 < i → Node (i - 1) s
low_node i s n p =
    let h : 2 ^ i ≡ 2 ^ (i - 1) + 2 ^ (i - 1) = halves i p in
    let f : 1 + (i - 1) ≡ i = omega arith in
    let z : s % 2 ^ (1 + (i - 1)) ≡ 0 = subst (λ (k : ℕ). s % 2 ^ k ≡ 0) (sym f) n.aligned in
    record {
      small = omega (arith, n.small);
      aligned = sym (mod-mod-pow s 1 (i - 1)) ∙ ap (λ (k : ℕ). k % 2 ^ (i - 1)) z ∙ zero-mod (2 ^ (i - 1));
      room = omega (arith, n.room);
    }

pub high_node : (i s h : ℕ) → h ≡ 2 ^ (i - 1) → Node i s → 0 < i → Node (i - 1) (s + h)
high_node i s h e n p =
    let d : 2 ^ i ≡ 2 ^ (i - 1) + 2 ^ (i - 1) = halves i p in
    let l : Node (i - 1) s = low_node i s n p in
    record {
      small = l.small;
      aligned = ap (λ (k : ℕ). (s + k) % 2 ^ (i - 1)) e ∙ add-mod_right s (2 ^ (i - 1)) ∙ l.aligned;
      room = omega (arith, n.room);
    }
