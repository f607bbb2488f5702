use Rattle.bookfile.proofs.Storing.{stored_none, turn_inside, turn_next, stored_all}
use Rattle.bookfile.proofs.reading.write_rules.Goals as goal

pub loop-rule-init : goal.loop-rule-init
loop-rule-init c = rw c.requires.begin_is (stored_none _ _ c.requires.listed)

pub decoded_rule-requires : goal.decoded_rule-requires
decoded_rule-requires c = turn_inside _ _ c.requires.rules_len c.loop-rule.invariant c.loop-rule-test.true

pub next_record-at-requires : goal.next_record-at-requires
next_record-at-requires c = turn_inside _ _ c.requires.rules_len c.loop-rule.invariant c.loop-rule-test.true

pub loop-rule-preserved : goal.loop-rule-preserved
loop-rule-preserved c =
    turn_next _ _ c.requires.rules_len c.loop-rule.invariant c.loop-rule-test.true c.next_record-at.ensures c.decoded_rule.ensures

pub returns : goal.returns
returns c = stored_all _ _ c.requires.rules_len c.loop-rule.invariant c.loop-rule-test.false
