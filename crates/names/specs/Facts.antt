-- What the functions that make a fact promise: the fact of the pass, of every identifier that has the id, and every one that has the place.
use Rattle.std.specs.Prelude.{ℕ, Bool, ◌≡◌}
use Rattle.tree.specs.Record.{Record}
use Rattle.tree.specs.Tree.{Ident}
use Rattle.semantic.specs.Information.{new, with_usage_count, refers_to}
use Rattle.semantic.specs.declared.IdentifierStatus.{IdentifierStatus}
use Rattle.semantic.specs.declared.ScopeInfo.{ScopeInfo}
use Rattle.semantic.specs.declared.SemanticInformation.{SemanticInformation}
use Rattle.semantic.specs.declared.Span.{Span}
use Rattle.pass.specs.State.{Entry, Capture}
use Rattle.pass.specs.Read.{span, free_fact, global_fact, local_fact, home_fact, taken_fact}
use Rattle.work.specs.Coded.{coded, capture_of}
use Rattle.work.specs.declared.captures.Capture.{Capture as CodedCapture}
use Rattle.work.specs.declared.entries.Entry.{Entry as Coded}

-- the place of a record
abbrev pub span_of : Record → Span
span_of r = record { start = r.from; end = r.to }

-- what every read of an id has
abbrev pub reading_of : IdentifierStatus → ℕ → ℕ → Span → SemanticInformation
reading_of k d id p = refers_to id (with_usage_count 1 (new k d p))

pub record FreeFact (prelude : Bool) (d : ℕ) (p : Span) (r : SemanticInformation) : Type 0 where
  pub is : (x : Ident) → p ≡ span x → r ≡ free_fact prelude d x

pub record GlobalFact (prelude : Bool) (id : ℕ) (p : Span) (r : SemanticInformation) : Type 0 where
  pub is : (b x : Ident) → id ≡ b.id → p ≡ span x → r ≡ global_fact prelude b x

pub record LocalFact (d id : ℕ) (e : Coded) (p : Span) (r : SemanticInformation) : Type 0 where
  pub is : (b : Ident) (v : Entry) (x : Ident) → id ≡ b.id → e ≡ coded v → p ≡ span x → r ≡ local_fact d b v x

pub record HomeFact (d id : ℕ) (e : Coded) (p : Span) (r : SemanticInformation) : Type 0 where
  pub is : (b : Ident) (v : Entry) (x : Ident) → id ≡ b.id → e ≡ coded v → p ≡ span x → r ≡ home_fact d b v x

pub record TakenFact (d : ℕ) (t : CodedCapture) (v : ScopeInfo) (p : Span) (r : SemanticInformation) : Type 0 where
  pub is : (c : Capture) (x : Ident) → t ≡ capture_of c → p ≡ span x → r ≡ taken_fact d c v x
