-- Changes of a state that the work table does not see.
use Rattle.std.specs.Prelude.{ℕ, List, ◌≡◌, Option, None, Some}
use Rattle.std.specs.Option.{option_or}
use Rattle.std.proofs.Math.Path.{refl}
use Rattle.std.proofs.Common.{ap, ◌∙◌}
use Rattle.tree.specs.Check.{Refusal}
use Rattle.semantic.specs.Rows.{Row}
use Rattle.pass.specs.State.{Facts, State, with_facts, with_context, insert, or_kept, note_second}
use Rattle.work.specs.Coded.{refusal_at, second_of, refusal_of}
use Rattle.work.specs.Works.{Beside, beside_pass, beside_state, Works}
use Rattle.work.specs.Passes.{in_context, with_tops, with_second}
use Rattle.work.specs.declared.Pass.{Pass}
use Rattle.work.specs.declared.SecondRefusal.{SecondRefusal}

-- other refusals noted
abbrev pub noting : Option ℕ → Option ℕ → Option Refusal → Beside → Beside
noting nine ten second b = record {
  context = b.context;
  captured_top = b.captured_top;
  arguments_top = b.arguments_top;
  nine = nine;
  ten = ten;
  second = second;
}

-- the first is kept
pub second_or : (o : Option SecondRefusal) (e : SecondRefusal) → second_of (option_or o (Some e)) ≡ or_kept (second_of o) (refusal_of e)
second_or None e = refl
second_or (Some f) e = refl

module _ {p : Pass} {w : List ℕ} {s : State} (k : Works p w s) where
  -- what is threaded beside the table may change with the state
  pub works_as : (q : Pass) (t : State) → q.scope ≡ p.scope → q.captures ≡ p.captures → t.scope ≡ s.scope → t.captures ≡ s.captures
      → t.facts.captured ≡ s.facts.captured → beside_pass q ≡ beside_state t → Works q w t
  works_as q t a b c d e f = record {
    long = k.long;
    names = rw (a, c) k.names;
    entries = rw c k.entries;
    captures = rw (b, d) k.captures;
    taken = rw d k.taken;
    binders = rw e k.binders;
    beside = f;
  }

  pub insert_kept : (i : ℕ) (r : Row) → Works p w (insert i r s)
  unfolding insert
  insert_kept i r = works_as p (insert i r s) refl refl refl refl refl k.beside

  pub context_kept : (c : ℕ) → Works (in_context c p) w (with_context c s)
  context_kept c = works_as (in_context c p) (with_context c s) refl refl refl refl refl (ap (λ (b : Beside). record {
    context = c;
    captured_top = b.captured_top;
    arguments_top = b.arguments_top;
    nine = b.nine;
    ten = b.ten;
    second = b.second;
  }) k.beside)

  -- a refusal of a second run is noted, unless one was before
  pub second_kept : (n i : ℕ) (r : Option SecondRefusal) → second_of r ≡ or_kept (second_of p.second) (refusal_at n i) → Works (with_second r p) w (note_second n i s)
  second_kept n i r q =
      works_as (with_second r p) (note_second n i s) refl refl refl refl refl
      (ap (λ (o : Option Refusal). noting p.nine p.ten o (beside_pass p)) q
      ∙ ap (λ (b : Beside). noting b.nine b.ten (or_kept b.second (refusal_at n i)) b) k.beside)

  pub second_noted : (e : SecondRefusal) → Works (with_second (option_or p.second (Some e)) p) w (note_second (refusal_of e).number (refusal_of e).at s)
  second_noted e = second_kept (refusal_of e).number (refusal_of e).at (option_or p.second (Some e)) (second_or p.second e)

  -- other facts, with the same captured entries
  pub facts_kept : (f : Facts) → f.captured ≡ s.facts.captured → Works (with_tops f.captured_top f.arguments_top p) w (with_facts f s)
  facts_kept f e =
      works_as (with_tops f.captured_top f.arguments_top p) (with_facts f s) refl refl refl refl e (ap (λ (b : Beside). record {
        context = b.context;
        captured_top = f.captured_top;
        arguments_top = f.arguments_top;
        nine = b.nine;
        ten = b.ten;
        second = b.second;
      }) k.beside)
