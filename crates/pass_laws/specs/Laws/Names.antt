-- What a read, a set! and an entering name change.
use Rattle.std.specs.Prelude.{ℕ, ◌≤◌, List, Bool, true, false, ◌&&◌, ◌≡◌, refl, eqb, ltb, Option, None, Some}
use Rattle.std.proofs.lemmas.Option.{same_Some, none-some}
use Rattle.std.proofs.Common.{ap, ◌∙◌, arith}
use Rattle.tree.specs.Tree.{Ident, Tree}
use Rattle.tree.specs.Check.{Refusal}
use Rattle.scope_map.specs.ScopeMap.{has_at_top}
use Rattle.scope_map.specs.ScopeMap as map
use Rattle.semantic.specs.Amend.{used_or}
use Rattle.semantic.specs.Information.{NONE, with_usage_count, mark_set, mark_shadowed}
use Rattle.semantic.specs.Rows.{Row, Blank, Variable, Function, CallSite, Let}
use Rattle.semantic.specs.declared.IdentifierStatus.{IdentifierStatus}
use Rattle.semantic.specs.declared.ScopeInfo.{ScopeInfo}
use Rattle.semantic.specs.declared.SemanticInformation.{SemanticInformation}
use Rattle.pass.specs.State.{info_at, row_at, Entry, Noted, State, with_names, depth, newest, or_kept, note_nine, note_ten, note_second, put_entry}
use Rattle.pass.specs.Read.{note_live, enter, enter_define, mark_if, shadow_if_builtin, shadow, enter_top_level_value, Rule, no_entry, depth_one, current_layer, taken_capture, home_slot, rule_of, has_number, note_taken, one_use_more, read_by, read, mutate_at, mutate}
use Rattle.semantic.specs.Kinds.{is_call_site}
use Rattle.pass_laws.specs.Laws.Rows.{lasting}
use Rattle.pass_laws.specs.Laws.Changes.{lasting_entry, Used, Second, Later, CallSteps, CallChanges, same, ◌⨾◌, either, row, mark, entry, used, names, captures, note}

-- An entry that is read, read from an inner lambda, or set

read-used : {d e : Entry} → e.captured ≡ d.captured → e.mutated ≡ d.mutated → lasting_entry e ≡ lasting_entry d → Used d e
read-used p q r = record { captured = λ h. p ∙ h; mutated = λ h. q ∙ h; kept = r }

captured_used : {d e : Entry} → e.captured ≡ true → e.mutated ≡ d.mutated → lasting_entry e ≡ lasting_entry d → Used d e
captured_used p q r = record { captured = λ h. p; mutated = λ h. q ∙ h; kept = r }

set-used : {d e : Entry} → e.captured ≡ d.captured → e.mutated ≡ true → lasting_entry e ≡ lasting_entry d → Used d e
set-used p q r = record { captured = λ h. p ∙ h; mutated = λ h. q; kept = r }

-- Refusals

kept_none : {A : Type 0} (o : Option A) (a : A) → or_kept o a ≡ None → o ≡ None
kept_none None a e = refl
kept_none (Some b) a e = e

kept_first : {A : Type 0} (o : Option A) (a b : A) → o ≡ Some b → or_kept o a ≡ Some b
kept_first None a b e = absurd (none-some b e)
kept_first (Some c) a b e = e

nine_later : (i : ℕ) (n : Noted) → Later n (record { nine = or_kept n.nine i; ten = n.ten; second = n.second })
nine_later i n = record { nine = kept_none n.nine i; ten = λ e. e; second = λ e. e; first_nine = kept_first n.nine i; first_ten = λ j e. e; first_second = λ r e. e; numbers = λ h. h }

ten_later : (i : ℕ) (n : Noted) → Later n (record { nine = n.nine; ten = or_kept n.ten i; second = n.second })
ten_later i n = record { nine = λ e. e; ten = kept_none n.ten i; second = λ e. e; first_nine = λ j e. e; first_ten = kept_first n.ten i; first_second = λ r e. e; numbers = λ h. h }

kept_second : (o : Option Refusal) (k i : ℕ) → (11 ≤ k) × (k ≤ 12) → Second o → Second (or_kept o (record { number = k; at = i }))
kept_second None k i b h r e = let q : k ≡ r.number = ap (λ (p : Refusal). p.number) (same_Some _ _ e) in (omega (arith, q, b.0), omega (arith, q, b.1))
kept_second (Some a) k i b h r e = h r e

second_later : (k i : ℕ) (n : Noted) → (11 ≤ k) × (k ≤ 12) → Later n (record { nine = n.nine; ten = n.ten; second = or_kept n.second (record { number = k; at = i }) })
second_later k i n b = record { nine = λ e. e; ten = λ e. e; second = kept_none n.second _; first_nine = λ j e. e; first_ten = λ j e. e; first_second = kept_first n.second _; numbers = kept_second n.second k i b }

marked_if : (b : Bool) (v : SemanticInformation) → lasting (mark_if b mark_shadowed v) ≡ lasting v
marked_if true v = refl
marked_if false v = refl

-- a row that is used is a call's fact if it was one
used_site : (v : SemanticInformation) (r : Row) → is_call_site r ≡ false → is_call_site (used_or v r) ≡ false
used_site v Blank e = refl
used_site v (Variable w) e = refl
used_site v (Function w) e = refl
used_site v (CallSite w) e = e
used_site v (Let w) e = refl

module _ {free : Type 0} {own sites : ℕ → Type 0} where
  pub ten_changes : (i : ℕ) (s : State) → CallSteps free own sites s (note_ten i s)
  ten_changes i s = note _ (record { later = ten_later i s.noted; nine = λ o. refl })

  pub second_changes : (n i : ℕ) (s : State) → (11 ≤ n) × (n ≤ 12) → CallSteps free own sites s (note_second n i s)
  second_changes n i s b = note _ (record { later = second_later n i s.noted b; nine = λ o. refl })

  taken_changes : (c : ScopeInfo) (x : Ident) (s : State) → CallSteps free own sites s (note_taken c x s)
  taken_changes c x s = either (has_number c.read_capture_offset && eqb c.capture_offset NONE) (second_changes 12 x.at s (omega arith, omega arith)) same

  pub unfound_changes : (classes : List ℕ) (x : Ident) (s : State) → own x.at → CallSteps free own sites s (read_by classes no_entry x s)
  unfound_changes classes x s o = row x.at _ o (used_site _ (row_at s x.at))

  pub shadow_changes : (classes : List ℕ) (o : Option Ident) (s : State) → CallSteps free own sites s (shadow classes o s)
  shadow_changes classes None s = same
  shadow_changes classes (Some b) s = mark (shadow_if_builtin classes) b.at (λ v. marked_if v.builtin v)

module _ {own sites : ℕ → Type 0} where
  pub nine_changes : (i : ℕ) (s : State) → CallChanges own sites s (note_nine i s)
  nine_changes i s = note _ (record { later = nine_later i s.noted; nine = λ o. absurd (o tt) })

  -- A name is read

  module _ (classes : List ℕ) where
    pub by_changes : (r : Rule) (x : Ident) (s : State) → own x.at → CallChanges own sites s (read_by classes r x s)
    by_changes no_entry x s o = unfound_changes classes x s o
    by_changes (depth_one b) x s o = used tt b.at _ (read-used refl refl refl) ⨾ mark one_use_more b.at (λ v. refl) ⨾ row x.at _ o (λ e. refl)
    by_changes (current_layer b) x s o = used tt b.at _ (read-used refl refl refl) ⨾ mark (with_usage_count _) b.at (λ v. refl) ⨾ row x.at _ o (λ e. refl)
    by_changes (taken_capture b c) x s o =
        captures tt _ ⨾ used tt b.at _ (captured_used refl refl refl) ⨾ mark (with_usage_count _) c.binder.at (λ v. refl) ⨾ row x.at _ o (λ e. refl) ⨾ taken_changes (info_at s c.row) x _
    by_changes (home_slot b) x s o = used tt b.at _ (captured_used refl refl refl) ⨾ mark (with_usage_count _) b.at (λ v. refl) ⨾ row x.at _ o (λ e. refl)

    pub read_changes : (x : Ident) (s : State) → own x.at → CallChanges own sites s (read classes x s)
    unfolding read
    read_changes x s o = by_changes (rule_of s x.name) x s o

  -- and set

  pub set_changes : (o : Option Ident) (s : State) → CallChanges own sites s (mutate_at o s)
  set_changes None s = same
  set_changes (Some b) s = used tt b.at _ (set-used refl refl refl) ⨾ mark mark_set b.at (λ v. refl)

  pub mutate_changes : (x : ℕ) (s : State) → CallChanges own sites s (mutate x s)
  unfolding mutate
  mutate_changes x s = set_changes (newest s x) s

  -- A name enters

  noted_enters : (b : Bool) (x : Ident) (e : Entry) (s : State) → own x.at
      → CallChanges own sites s (put_entry x.at e (with_names (map.define x.name x s.scope.names) (note_live b x.at s)))
  noted_enters true x e s o = nine_changes x.at s ⨾ names tt _ refl ⨾ entry tt x.at e o
  noted_enters false x e s o = names tt _ refl ⨾ entry tt x.at e o

  pub enter_changes : (x : Ident) (e : Entry) (s : State) → own x.at → CallChanges own sites s (enter x e s)
  unfolding enter
  enter_changes x e s o = noted_enters (ltb 1 (depth s) && has_at_top s.scope.names x.name) x e s o

  module _ (classes : List ℕ) where
    pub define_changes : (k : IdentifierStatus) (a : ℕ) (x : Ident) (b : Tree) (s : State) → own x.at → CallChanges own sites s (enter_define classes k a x b s)
    unfolding enter_define
    define_changes k a x b s o = enter_changes x _ s o ⨾ row x.at _ o (λ e. refl)

    pub value_changes : (x : Ident) (b : Tree) (s : State) → own x.at → CallChanges own sites s (enter_top_level_value classes x b s)
    unfolding enter_top_level_value
    value_changes x b s o = shadow_changes classes (newest s x.name) s ⨾ define_changes _ _ x b _ o
