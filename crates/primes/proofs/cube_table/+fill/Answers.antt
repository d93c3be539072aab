-- `primes::cube_table::fill` meets its contract. The measure is the number of inputs of the block. Assumes nothing.
use native.Mathlib.Omega.{arith}
use mathlib.Core.Path.{◌∙◌}
use lib.ListN.{length-set}
use lib.Pow.{pow_pos}
use Rattle.primes.proofs.BaseThree.{cubes_le}
use Rattle.primes.proofs.Blocks.{fits_one, one_entry, half_lt, split, clear_first, clear_second, blocks}
use Rattle.primes.proofs.Pairs.{one_input, pair_block}
use Rattle.primes.proofs.cube_table.+fill.Goals as goal

pub bounds-may-value : goal.bounds-may-value
bounds-may-value t c = omega (arith, c.requires.1, pow_pos c.args.i)

pub bounds-table-at : goal.bounds-table-at
bounds-table-at t c = fits_one _ _ _ c.if-i-eq0.true c.requires.3

pub shape_of-table-then-i-eq0 : goal.shape_of-table-then-i-eq0
shape_of-table-then-i-eq0 t c = simp length-set

pub returns-then-i-eq0 : goal.returns-then-i-eq0
returns-then-i-eq0 t c = one_entry _ _ _ _ _ c.if-i-eq0.true c.requires.3

pub fill_pair-requires : goal.fill_pair-requires
fill_pair-requires t c = one_input _ _ _ _ c.if-i-eq1.true c.requires

pub shape_of-table-then-i-eq1 : goal.shape_of-table-then-i-eq1
shape_of-table-then-i-eq1 t c = c.fill_pair.ensures.beside.size

pub returns-then-i-eq1 : goal.returns-then-i-eq1
returns-then-i-eq1 t c = pair_block _ _ _ _ _ _ c.if-i-eq1.true c.fill_pair.ensures

pub overflow_sub-k : goal.overflow_sub-k
overflow_sub-k t c = omega (arith, c.if-i-eq0.false)

pub bound-half-requires : goal.bound-half-requires
bound-half-requires t c = omega (arith, c.requires.0)

pub spread-s-requires : goal.spread-s-requires
spread-s-requires t c = half_lt _ _ c.requires.0 c.if-i-eq0.false c.bound-half.ensures

-- the block in three: what `split` says of the weight of the last input

pub overflow_add-low : goal.overflow_add-low
overflow_add-low t c =
    let q = split _ _ _ c.requires.0 c.if-i-eq0.false c.bound-half.ensures c.spread-s.ensures in
    omega (arith, c.requires.3, q.thirds)

pub fill-requires : goal.fill-requires
fill-requires t c =
    let p = c.requires in
    let q = split _ _ _ p.0 c.if-i-eq0.false c.bound-half.ensures c.spread-s.ensures in (
      omega (arith, c.decreases, c.if-i-eq0.false),
      (omega (arith, p.0), omega (arith, p.1, q.halved, q.weight), clear_first _ _ _ q _ p.2, omega (arith, p.3, q.thirds, q.third)),
    )

pub overflow_add-value : goal.overflow_add-value
overflow_add-value t c =
    let q = split _ _ _ c.requires.0 c.if-i-eq0.false c.bound-half.ensures c.spread-s.ensures in
    omega (arith, c.requires.1, q.halved)

pub overflow_add-low-2 : goal.overflow_add-low-2
overflow_add-low-2 t c =
    let q = split _ _ _ c.requires.0 c.if-i-eq0.false c.bound-half.ensures c.spread-s.ensures in
    omega (arith, c.requires.3, q.thirds)

pub fill-requires-2 : goal.fill-requires-2
fill-requires-2 t c =
    let p = c.requires in
    let q = split _ _ _ p.0 c.if-i-eq0.false c.bound-half.ensures c.spread-s.ensures in (
      omega (arith, c.decreases, c.if-i-eq0.false),
      (
        omega (arith, p.0),
        omega (arith, p.1, q.halved, q.weight),
        clear_second _ _ _ q _ p.2,
        omega (arith, p.3, q.thirds, q.third, c.fill.ensures.beside.size),
      ),
    )

pub join-requires : goal.join-requires
join-requires t c =
    let p = c.requires in
    let q = split _ _ _ p.0 c.if-i-eq0.false c.bound-half.ensures c.spread-s.ensures in
    (omega (arith, cubes_le _ p.0, q.thirds), omega (arith, p.3, q.thirds, c.fill.ensures.beside.size, c.fill-2.ensures.beside.size))

pub shape_of-table : goal.shape_of-table
shape_of-table t c = c.join.ensures.beside.size ∙ c.fill-2.ensures.beside.size ∙ c.fill.ensures.beside.size

pub returns : goal.returns
returns t c =
    let q = split _ _ _ c.requires.0 c.if-i-eq0.false c.bound-half.ensures c.spread-s.ensures in
    blocks _ _ _ q _ c.requires.2 _ _ _ _ _ _ c.fill.ensures c.fill-2.ensures c.join.ensures
