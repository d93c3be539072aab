-- `table::cubes::halves` meets its contract. The measure is the number of free inputs. Assumes nothing.
use native.Mathlib.Omega.{arith}
use mathlib.Core.Path.{refl}
use Rattle.table.proofs.Halves.{first_part, fewer_free, both_halves, first_half_none, two_vertices, four_vertices}
use Rattle.table.proofs.cubes.+halves.Goals as goal

pub first_free-i-requires : goal.first_free-i-requires
first_free-i-requires t c = c.requires

pub overflow_sub-rest : goal.overflow_sub-rest
overflow_sub-rest t c = first_part _ _ c.first_free-i.ensures.member

pub returns-then-rest-eq0 : goal.returns-then-rest-eq0
returns-then-rest-eq0 t c = two_vertices _ _ _ _ _ c.first_free-i.ensures.member c.if-rest-eq0.true c.pair.ensures

pub first_free-k-requires : goal.first_free-k-requires
first_free-k-requires t c = omega (arith, c.if-rest-eq0.false)

pub returns-then-rest-k : goal.returns-then-rest-k
returns-then-rest-k t c = four_vertices _ _ _ _ _ c.first_free-i.ensures.member c.first_free-k.ensures.member c.if-rest-k.true _ _ c.pair-then-rest-k.ensures c.pair-then-rest-k-2.ensures

pub halves-low-requires : goal.halves-low-requires
halves-low-requires t c = (omega (arith, c.decreases, fewer_free _ _ _ c.first_free-i.ensures.member refl), omega (arith, c.if-rest-eq0.false))

pub returns-then-low-eq0 : goal.returns-then-low-eq0
returns-then-low-eq0 t c = first_half_none _ _ _ _ c.first_free-i.ensures.member _ _ refl c.halves-low.ensures c.if-low-eq0.true

pub halves-high-requires : goal.halves-high-requires
halves-high-requires t c = (omega (arith, c.decreases, fewer_free _ _ _ c.first_free-i.ensures.member refl), omega (arith, c.if-rest-eq0.false))

pub returns : goal.returns
returns t c = both_halves _ _ _ _ c.first_free-i.ensures.member _ _ _ _ refl refl c.halves-low.ensures c.halves-high.ensures
