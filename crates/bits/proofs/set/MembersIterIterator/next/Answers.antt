-- `next` of the members of a set meets its contract: each step leaves fewer members.
use Rattle.std.proofs.Common.{rules}
use Rattle.bits.proofs.Parts.{minus_member_ones}
use Rattle.bits.proofs.set.MembersIterIterator.next.Goals as goal

pub returns-clause-goes : goal.returns-clause-goes
returns-clause-goes c = record {
  on = λ f. (search rules, search rules, minus_member_ones _ _ _ c.lowest-m.ensures.member c.minus-self.ensures);
  keeps = search rules;
  rests = search rules;
}
