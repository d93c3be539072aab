-- `eight_rows::is_accepted` meets its contract.
use Rattle.std.proofs.Common.{rules, ◌≡◌, ◌+◌, ◌≤◌, ◌<◌, ℕ, get_or, length, arith}
use lib.Dec.{ltb→lt}
use lib.Pow.{pow_mono}
use Rattle.eight_rows.proofs.EightRows.{part_below, eight_at}
use Rattle.eight_rows.proofs.is_accepted.Goals as goal

pub returns : goal.returns
returns c t =
    let a = c.args in
    let v = c.from-v.result in
    let size : length a.given.now ≡ 256 = search rules in
    let given_all : (i : ℕ) → i < 8 → get_or a.given.now (v + i) 0 ≤ c.union.result =
    λ i l. part_below a.given.now v (v + 8) c.union.result (omega (arith, c.if-bound-v.false, c.bound.ensures, pow_mono c.requires.n_bound.0, size)) c.union.ensures i (omega arith) in
    let used_all : (i : ℕ) → i < 16 → get_or a.job.now (a.at + 2 + i) 0 ≤ c.union-2.result =
    λ i l. part_below a.job.now (a.at + 2) (a.at + 18) c.union-2.result (omega (arith, c.if-job-at-lt18.false)) c.union-2.ensures i (omega arith) in
    eight_at a.s a.given.now a.job.now a.at c.if-job-at-lt18.false c.if-job-at-ne66.false c.from-v.ensures
    c.bound.ensures c.requires.n_bound.0 c.if-bound-v.false given_all (omega (arith, c.if-union-ne0.false)) c.shared.ensures (omega (arith, c.if-shared-ne0.false)) used_all
    c.bound-2.ensures (omega (arith, ltb→lt c.from.result c.bound-2.result t, c.from.ensures))
