-- `enter`: the row is written with the name's bound as its link, then the hint is set.
use Rattle.scope_map.proofs.Index.{enters}
use Rattle.scope_map.proofs.enter.Goals as goal

pub returns : goal.returns
returns c =
    let s = c in
    enters _ _ _ _ _ _ s.requires.0 s.requires.1 c.bound-link.ensures c.put.ensures c.set_hint.ensures
