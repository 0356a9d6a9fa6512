-- `capture_rule`: the newest capture of the name, or the home slot.
use Rattle.names.proofs.RuleCase.{decides_home, decides_taken}
use Rattle.names.proofs.read.capture_rule.Goals as goal

pub returns-in_default : goal.returns-in_default
returns-in_default c = decides_home c.newest_capture.ensures c.in_default.is

pub returns : goal.returns
returns c = decides_taken c.newest_capture.ensures c.in-Some.is c.wide.ensures
