-- `answers::writers::put_page_of` meets its contract.
use Rattle.std.proofs.Common.{◌∙◌, ℕ, List, [], ◌∷◌, ◌++◌, ap, ap₂, length, refl, arith}
use Rattle.answers.proofs.Bytes.{one_or_none, none_yet, copied, sets_long, written}
use Rattle.answers.proofs.writers.put_page_of.Goals as goal

pub returns-then-free-len : goal.returns-then-free-len
returns-then-free-len c = (refl, omega (arith, sets_long c.args.sets.now), refl)

pub returns : goal.returns
returns c =
    let first = copied [] c.args.free.now _ 0 (none_yet c.args.free.now) c.copy_from_slice.new.self 3 (ap length c.copy_from_slice.ensures.after) in
    let head = c.copy_from_slice.ensures.after ∙ ap (λ (m : ℕ). c.args.code ∷ length c.args.sets.now ∷ m ∷ []) (c.from.ensures ∙ one_or_none c.args.more) in
    let n = ap length c.put_sets.ensures ∙ sets_long c.args.sets.now in
    written _ _ _ _ _ _ (ap₂ (λ (x y : List ℕ). x ++ y) head c.put_sets.ensures) (omega arith) c.if-free-len.false (copied _ _ _ 3 first c.put_sets.new.room _ (omega (arith, n)))
