-- `answers::writers::put_cheapest` meets its contract.
use Rattle.std.proofs.Common.{◌≡◌, ◌∙◌, ℕ, List, [], ◌∷◌, ◌++◌, ap, ap₂, refl, take, length, arith}
use Rattle.model.specs.Commands.{low}
use Rattle.answers.proofs.Bytes.{low_8, none_yet, one_more, copied, written}
use Rattle.answers.proofs.writers.put_cheapest.Goals as goal

pub returns : goal.returns
returns c =
    let cost : c.copy_from_slice.new.self ≡ low 2 c.args.cost = c.copy_from_slice.ensures.after ∙ ap (take 2) (c.to_le_bytes.ensures ∙ low_8 c.args.cost) in
    let set : c.copy_from_slice-2.new.self ≡ low 8 c.args.set = c.copy_from_slice-2.ensures.after ∙ c.to_le_bytes-2.ensures ∙ low_8 c.args.set in
    let first = one_more [] c.args.free.now _ 0 (none_yet c.args.free.now) 0x63 (omega arith) in
    let then = copied _ _ _ 1 first c.copy_from_slice.new.self 2 (ap length cost) in
    written _ _ _ _ 11 11 (ap₂ (λ (x y : List ℕ). 0x63 ∷ (x ++ y)) cost set) refl (omega arith) (copied _ _ _ 3 then c.copy_from_slice-2.new.self 8 (ap length set))
