-- Rows that are put in front of a buffer.
use Rattle.std.specs.Prelude.{◌≡◌, List, ℕ, ◌≤◌, ◌<◌, length, get_or, Option, Some}

-- the first r entries of new are what a choice makes of the rows, and new has as many entries as before: `makes x o` says that it may make o of x
pub record Kept (makes : ℕ → Option ℕ → Type 0) (rows : List ℕ) (size r : ℕ) (new : List ℕ) : Type 0 where
  pub size_is : length new ≡ size
  pub few : r ≤ length rows
  pub has : (k y : ℕ) → k < length rows → ((o : Option ℕ) → makes (get_or rows k 0) o → o ≡ Some y) → (j : ℕ) × (j < r) × (get_or new j 0 ≡ y)
  pub from : (j : ℕ) → j < r → (k : ℕ) × (k < length rows) × makes (get_or rows k 0) (Some (get_or new j 0))
