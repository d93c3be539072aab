-- The outcome of the multiplication, by the definitions of crate model.
use Rattle.std.specs.Prelude.{ℕ, ◌^◌, ◌≤◌, ◌<◌, ◌≡◌, true, false, cond, List, length, take, replicate, Result, IfOk, MatchResult}
use denote.Ref.{MutBor, at_last}
use Rattle.model.specs.Base.{All}
use Rattle.model.specs.Sets.{Covering, of_rows}
use Rattle.model.specs.Products.{products, has_too_many}
use Rattle.model.specs.Library.{turn}
use Rattle.product.specs.declared.TooMany.{TooMany}
use Rattle.product.specs.Order.{sorted}

-- the covering problem of these rows; costs are nothing to the multiplication
abbrev pub of_cells : ℕ → List ℕ → Covering ℕ ℕ
of_cells n rows = of_rows (replicate n 0) rows

-- each row has members among the n candidates alone
abbrev pub RowsBelow : ℕ → List ℕ → Type 0
RowsBelow n rows = All (λ r. (r < 2 ^ n)) rows

-- where the rows have taken turns: the products stand first in one of them, in some order, unless they are too many
pub record TakenTurns (n : ℕ) (rows first second : List ℕ) (outcome : Result ℕ TooMany) : Type 0 where
  pub first_size : length first ≡ 1024
  pub second_size : length second ≡ 1024
  pub told : MatchResult outcome (λ c. has_too_many (of_cells n rows) ≡ false) (λ e. has_too_many (of_cells n rows) ≡ true)
  pub within : IfOk outcome (λ c. c ≤ 1024)
  pub sets : IfOk outcome (λ c. sorted (take c (turn (length rows) first second)) ≡ products (of_cells n rows))

-- the count or 17 told, and the row handed back: the products stand first in it, rising; it is the first row behind an even number of points,
-- the second behind an odd one; 17, told where they are too many, hands the first row back
pub record MultipliedTo {A X : Type 0} (k : Covering A X) (first second row : MutBor (List ℕ)) (outcome : Result ℕ TooMany) : Type 0 where
  pub told : MatchResult outcome (λ c. has_too_many k ≡ false) (λ e. has_too_many k ≡ true)
  pub which : row ≡ at_last (cond (has_too_many k) first (turn (length k.points) first second)) row.now
  pub size : length row.now ≡ 1024
  pub within : IfOk outcome (λ c. c ≤ 1024)
  pub counted : IfOk outcome (λ c. c ≡ length (products k))
  pub sets : IfOk outcome (λ c. take c row.now ≡ products k)

-- of rows alone
abbrev pub MultipliedRows : ℕ → List ℕ → MutBor (List ℕ) → MutBor (List ℕ) → MutBor (List ℕ) → Result ℕ TooMany → Type 0
MultipliedRows n rows first second row outcome = MultipliedTo (of_cells n rows) first second row outcome
