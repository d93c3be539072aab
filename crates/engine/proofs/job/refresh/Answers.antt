-- `engine::job::refresh` meets its contract.
use Rattle.engine.proofs.Running.{refreshed_none, refreshed_same, refreshed_anew}
use Rattle.engine.proofs.job.refresh.Goals as goal

pub returns-then-not-is_query : goal.returns-then-not-is_query
returns-then-not-is_query c = refreshed_none c.is_query.ensures c.requires.rows_len.0 c.if-not-is_query.true

pub returns-in-Some : goal.returns-in-Some
returns-in-Some c = refreshed_same c.is_query.ensures c.requires.rows_len.0 c.requires.rows_len.1 c.if-not-is_query.false c.in-Some.is

pub returns-in-None : goal.returns-in-None
returns-in-None c = refreshed_anew c.is_query.ensures c.if-not-is_query.false c.prepare.ensures
