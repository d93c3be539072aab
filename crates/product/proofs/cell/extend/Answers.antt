-- `product::cell::extend` meets its contract.
use Rattle.std.proofs.Common.{take}
use Rattle.product.proofs.Joining.{extend_none, extend_put}
use Rattle.product.proofs.cell.extend.Goals as goal

pub returns-then-r-p-ne0 : goal.returns-then-r-p-ne0
returns-then-r-p-ne0 c = extend_none _ _ _ _ _ c.requires.0 c.requires.2 c.if-r-p-ne0.true

pub returns : goal.returns
returns c = extend_put _ _ _ _ _ (take c.args.held c.args.to.now) _ _ c.if-r-p-ne0.false c.privates-barred.ensures c.minus.ensures c.join_each.ensures
