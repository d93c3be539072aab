-- A walk over some of the lister's sets: those of a list within its own.
use Rattle.std.specs.Prelude.{◌≡◌, false, cond, List, ℕ, ◌-◌, ◌^◌, ◌<◌}
use Rattle.lister.specs.declared.cursor.Cursor.{Cursor}
use Rattle.lister.specs.Lister.{coming}

-- from d to e no set of the list was passed, and e stands above d or is over
pub record Passed (list : List ℕ) (d e : Cursor) : Type 0 where
  pub same : coming list e ≡ coming list d
  pub on : e.over ≡ false → d.at < e.at

-- how many numbers are left to a cursor
unfoldable pub room : Cursor → ℕ
room c = cond c.over 0 (2 ^ 64 - c.at)
