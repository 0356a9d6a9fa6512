-- `rule_of`: by the newest entry's depth, then by the captures.
use Rattle.names.proofs.KnownCase.{told_at, told_none, newest_few}
use Rattle.names.proofs.RuleCase.{decides_none, decides_global, decides_local, decides_capture}
use Rattle.names.proofs.read.rule_of.Goals as goal

pub returns-in_default : goal.returns-in_default
returns-in_default c = decides_none (told_none c.newest.ensures c.in_default.is)

pub load_entry-e-requires : goal.load_entry-e-requires
load_entry-e-requires c = (c.requires.works.long, newest_few c.requires.good c.args.name c.requires.works (told_at c.newest.ensures c.in-Some.is))

pub returns-then-e-eq1 : goal.returns-then-e-eq1
returns-then-e-eq1 c = decides_global (told_at c.newest.ensures c.in-Some.is) c.load_entry-e.ensures c.if-e-eq1.true

pub returns-then-e-depth : goal.returns-then-e-depth
returns-then-e-depth c =
    decides_local (told_at c.newest.ensures c.in-Some.is) c.load_entry-e.ensures c.depth.ensures c.if-e-eq1.false c.if-e-depth.true

pub returns : goal.returns
returns c =
    decides_capture (told_at c.newest.ensures c.in-Some.is) c.load_entry-e.ensures c.depth.ensures c.if-e-eq1.false
    c.if-e-depth.false c.capture_rule.ensures
