-- `read`: each arm is the rule that decided.
use Rattle.names.specs.Laws.Idents.{known_few}
use Rattle.names.proofs.KnownCase.{bounds}
use Rattle.names.proofs.DoesCase.{bound_global, bound_local, bound-taken, bound-home, does_free, does_global, does_local, does_taken, does_home}
use Rattle.names.proofs.read.read.Goals as goal

pub use_or_store-requires : goal.use_or_store-requires
use_or_store-requires c =
    let h = c.requires.here in
    let k = bounds h.good h.tied (known_few h.known h.place) in
    (k.row, k.fits)

pub read_global-requires : goal.read_global-requires
read_global-requires c = bound_global c.name-name.ensures c.rule_of-rule.ensures c.requires.here c.in-DepthOne.is

pub read_local-requires : goal.read_local-requires
read_local-requires c = bound_local c.name-name.ensures c.rule_of-rule.ensures c.requires.here c.in-CurrentLayer.is

pub read_taken-requires : goal.read_taken-requires
read_taken-requires c = bound-taken c.name-name.ensures c.rule_of-rule.ensures c.requires.here c.in-TakenCapture.is

pub read_home-requires : goal.read_home-requires
read_home-requires c = bound-home c.name-name.ensures c.rule_of-rule.ensures c.requires.here c.in-HomeSlot.is

pub returns-in-NoEntry : goal.returns-in-NoEntry
returns-in-NoEntry c =
    does_free c.name-name.ensures c.rule_of-rule.ensures c.args.classes.now c.in-NoEntry.is c.span_at.ensures
    c.is_class-prelude.ensures c.depth-depth.ensures c.free_fact.ensures c.use_or_store.ensures

pub returns-in-DepthOne : goal.returns-in-DepthOne
returns-in-DepthOne c =
    does_global c.name-name.ensures c.rule_of-rule.ensures c.args.classes.now c.in-DepthOne.is c.is_class-prelude.ensures
    c.read_global.ensures

pub returns-in-CurrentLayer : goal.returns-in-CurrentLayer
returns-in-CurrentLayer c =
    does_local c.name-name.ensures c.rule_of-rule.ensures c.args.classes.now c.in-CurrentLayer.is c.depth-depth.ensures
    c.read_local.ensures

pub returns-in-TakenCapture : goal.returns-in-TakenCapture
returns-in-TakenCapture c = does_taken c.name-name.ensures c.rule_of-rule.ensures c.args.classes.now c.in-TakenCapture.is c.read_taken.ensures

pub returns-in-HomeSlot : goal.returns-in-HomeSlot
returns-in-HomeSlot c =
    does_home c.name-name.ensures c.rule_of-rule.ensures c.args.classes.now c.in-HomeSlot.is c.depth-depth.ensures c.read_home.ensures
