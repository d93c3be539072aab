-- A job cut into its commands: one command and then the rest, and nothing is lost.
use Prim.Native.Nat.{ℕ, zero, suc, ◌≤◌, ◌<◌}
use native.Mathlib.Omega.{arith}
use native.Mathlib.Nat.{le_refl}
use native.Mathlib.Decide.{dec_lt}
use mathlib.Core.Path.{◌≡◌, refl, ap, ◌∙◌}
use mathlib.Core.Logic.{◌⊎◌, inl, inr}
use mathlib.Core.Bool.{Bool, true, false, not, cond, ◌||◌}
use mathlib.Core.List.{List, [], ◌∷◌, ◌++◌, map}
use lib.Dec.{T}
use lib.ListN.{length, take, drop, length-drop, take-append-drop}
use Rattle.model.specs.Base.{join}
use Rattle.model.specs.Commands.{Kind, is, kind_of, width}
use Rattle.model.specs.Pieces.{Piece, piece_bytes, reach, pieces_up_to, pieces}
use Rattle.model.proofs.Lists.{T_false}

-- ---- one command and the rest

-- the first command of some bytes, and what it leaves
abbrev pub piece : ℕ → List ℕ → Piece
piece b bs = record { byte = b; operands = take (reach (kind_of b) bs) bs }

abbrev pub later : ℕ → List ℕ → List ℕ
later b bs = drop (reach (kind_of b) bs) bs

-- the bound does not matter
bound : (k j : ℕ) (bs : List ℕ) → length bs ≤ k → length bs ≤ j → pieces_up_to k bs ≡ pieces_up_to j bs
bound zero zero [] l m = refl
bound zero (suc j) [] l m = refl
bound (suc k) zero [] l m = refl
bound (suc k) (suc j) [] l m = refl
bound zero j (b ∷ bs) l m = absurd (omega arith)
bound (suc k) zero (b ∷ bs) l m = absurd (omega arith)
bound (suc k) (suc j) (b ∷ bs) l m =
    let short = length-drop (reach (kind_of b) bs) bs in
    ap (λ (cs : List Piece). piece b bs ∷ cs) (bound k j (later b bs) (omega (arith, short)) (omega (arith, short)))

pub pieces_none : pieces [] ≡ []
unfolding pieces
pieces_none = refl

pub pieces_step : (b : ℕ) (bs : List ℕ) → pieces (b ∷ bs) ≡ piece b bs ∷ pieces (later b bs)
unfolding pieces
pieces_step b bs =
    ap (λ (cs : List Piece). piece b bs ∷ cs) (bound (length bs) (length (later b bs)) (later b bs) (omega (arith, length-drop (reach (kind_of b) bs) bs)) (le_refl (length (later b bs))))

-- so, induction over the commands
module _ (P : List ℕ → Type 0) (none : P []) (step : (b : ℕ) (bs : List ℕ) → P (later b bs) → P (b ∷ bs)) where
  up_to : (k : ℕ) (bs : List ℕ) → length bs ≤ k → P bs
  up_to zero [] l = none
  up_to zero (b ∷ bs) l = absurd (omega arith)
  up_to (suc k) [] l = none
  up_to (suc k) (b ∷ bs) l = step b bs (up_to k (later b bs) (omega (arith, length-drop (reach (kind_of b) bs) bs)))

  pub pieces_ind : (bs : List ℕ) → P bs
  pieces_ind bs = up_to (length bs) bs (le_refl (length bs))

-- nothing is lost
pub pieces_whole : (job : List ℕ) → join (map piece_bytes (pieces job)) ≡ job
pieces_whole = pieces_ind (λ job. join (map piece_bytes (pieces job)) ≡ job) (rw pieces_none refl)
    (λ b bs e. rw (pieces_step b bs) (ap (λ (cs : List ℕ). b ∷ (take (reach (kind_of b) bs) bs ++ cs)) e ∙ ap (λ (cs : List ℕ). b ∷ cs) (take-append-drop (reach (kind_of b) bs) bs)))

-- ---- how far a command reaches

-- a command with all its operands that is not E: what is behind them does not belong to it
pub record Within (b : ℕ) (bs : List ℕ) : Type 0 where
  pub named : T (not (is (kind_of b) Kind.none))
  pub operands : width (kind_of b) ≤ length bs
  pub goes : T (not (is (kind_of b) Kind.E))

pub reach_width : (b : ℕ) (bs : List ℕ) → Within b bs → (cs : List ℕ) → reach (kind_of b) cs ≡ width (kind_of b)
reach_width b bs w cs = rw (T_false {b = is (kind_of b) Kind.E} w.goes, T_false {b = is (kind_of b) Kind.none} w.named) refl

-- of any other it is all that is left
pub all_or_within : (b : ℕ) (bs : List ℕ) → (length bs ≤ reach (kind_of b) bs) ⊎ Within b bs
all_or_within b bs = go (is (kind_of b) Kind.E) refl (is (kind_of b) Kind.none) refl (dec_lt (width (kind_of b)) (length bs))
  where
    go : (x : Bool) → is (kind_of b) Kind.E ≡ x → (y : Bool) → is (kind_of b) Kind.none ≡ y → Dec (width (kind_of b) < length bs)
        → (length bs ≤ cond (x || y) (length bs) (width (kind_of b))) ⊎ Within b bs
    go true e y f d = inl (le_refl (length bs))
    go false e true f d = inl (le_refl (length bs))
    go false e false f (no l) = inl (omega arith)
    go false e false f (yes l) = inr (record { named = rw f tt; operands = omega arith; goes = rw e tt })
