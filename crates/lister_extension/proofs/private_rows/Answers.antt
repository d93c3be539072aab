-- `lister_extension::private_rows` is safe and ends.
use Rattle.bits.proofs.Decide.{decides_true}
use Rattle.lister_extension.proofs.private_rows.Goals as goal

pub index-k-requires : goal.index-k-requires
index-k-requires c = decides_true _ _ c.is_single.ensures c.if-is_single.true
