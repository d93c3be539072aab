-- A job cut into its commands, whatever becomes of them. Nothing here is from the paper.
use Rattle.std.specs.Prelude.{ℕ, zero, suc, cond, ◌||◌, List, [], ◌∷◌, length, take, drop}
use Rattle.model.specs.Commands.{Kind, is, kind_of, width}

-- a command byte with the bytes that go with it
pub record Piece : Type 0 where
  pub byte : ℕ
  pub operands : List ℕ

abbrev pub piece_kind : Piece → Kind
piece_kind c = kind_of c.byte

abbrev pub piece_bytes : Piece → List ℕ
piece_bytes c = c.byte ∷ c.operands

-- how many of the bytes behind a command byte go with it: its operands. Behind E, and behind a byte that is no command, all of them: none of
-- these is a command
abbrev pub reach : Kind → List ℕ → ℕ
reach k bs = cond (is k Kind.E || is k Kind.none) (length bs) (width k)

-- k bounds the commands. Where operands are missing, the last piece has what is left
abbrev pub pieces_up_to : ℕ → List ℕ → List Piece
pieces_up_to zero bs = []
pieces_up_to (suc k) [] = []
pieces_up_to (suc k) (b ∷ bs) =
    let w = reach (kind_of b) bs in
    record { byte = b; operands = take w bs } ∷ pieces_up_to k (drop w bs)

unfoldable pub pieces : List ℕ → List Piece
pieces job = pieces_up_to (length job) job
