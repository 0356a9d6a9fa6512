-- What holds at places of `visit_let`.
use Prim.Native.Nat.{ℕ, ◌+◌}
use Rattle.tree.specs.Record.{nth}
use Rattle.visits.proofs.Bounds.{Span}
use Rattle.visits.proofs.LetCalls as calls
use Rattle.visits.proofs.Views.{own_field}
use Rattle.work.specs.Passes.{in_context}
use Rattle.semantic.specs.Information.{NONE}
use mathlib.Core.Path.{refl, ◌∙◌, ◌≡◌}
use Rattle.visits.proofs.AnalysisPass.+visits.Goals.{visit_let-After-part_at, visit_let-After-visit_arguments-a, visit_let-After-wide-count}

pub counts : (t : ℕ) (c : visit_let-After-wide-count t) → let o = c.args in c.count-many.result ≡ (nth o.s.now.all.now o.at).count
counts t c =
    own_field c.requires.0 (λ r. r.count) c.count-many.ensures

pub names-span : (t : ℕ) (c : visit_let-After-wide-count t) → let o = c.args in Span o.s.now.all.now o.rs.now o.at (c.wide-count.result + 2)
names-span t c =
    let counts : let o = c.args in c.count-many.result ≡ (nth o.s.now.all.now o.at).count =
    own_field c.requires.0 (λ r. r.count) c.count-many.ensures in
    calls.names-span c.requires.1 (c.wide-count.ensures ∙ counts) c.requires.0

pub begins : (t : ℕ) (c : visit_let-After-part_at t) → let o = c.args in
    calls.Begins o.s.now.all.now o.rs.now c.part_at.result.now o.at c.count-many.result c.wide-count.result o.f
    c.parts.result.0 o.self.now.pass (in_context NONE o.self.now.pass)
begins t c =
    let counts : let o = c.args in c.count-many.result ≡ (nth o.s.now.all.now o.at).count =
    own_field c.requires.0 (λ r. r.count) c.count-many.ensures in
    record {
      form = c.requires.1;
      count = counts;
      wide = c.wide-count.ensures;
      flags = c.parts.ensures.0;
      cut = c.part_at.ensures;
      pass = refl;
    }

pub body-span : (t : ℕ) (c : visit_let-After-visit_arguments-a t) → let o = c.args in
    Span o.s.now.all.now o.rs.now o.at (c.wide-count.result + c.visit_arguments-a.result + 2)
body-span t c =
    let counts : let o = c.args in c.count-many.result ≡ (nth o.s.now.all.now o.at).count =
    own_field c.requires.0 (λ r. r.count) c.count-many.ensures in
    let begins : let o = c.args in
    calls.Begins o.s.now.all.now o.rs.now c.part_at.result.now o.at c.count-many.result c.wide-count.result o.f
    c.parts.result.0 o.self.now.pass (in_context NONE o.self.now.pass) =
    record {
      form = c.requires.1;
      count = counts;
      wide = c.wide-count.ensures;
      flags = c.parts.ensures.0;
      cut = c.part_at.ensures;
      pass = refl;
    } in
    calls.body-span begins c.visit_arguments-a.ensures.0 c.requires.0
