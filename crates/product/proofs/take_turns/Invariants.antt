-- `product::take_turns` meets its contract: the row whose turn it is holds the products.
use Rattle.product.proofs.Turns.{Turning}
use Rattle.product.proofs.take_turns.Given as goal

abbrev pub invariant-loop-i : goal.invariant-loop-i
invariant-loop-i l = Turning l.n l.rows l.first l.second l.i l.held
