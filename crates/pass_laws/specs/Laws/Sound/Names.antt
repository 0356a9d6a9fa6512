-- A name is read, set, or enters.
use Rattle.std.specs.Prelude.{ℕ, suc, ◌≤◌, Bool, true, false, cond, ◌&&◌, ◌≡◌, ltb, Option, None, Some}
use Rattle.std.proofs.lemmas.Option.{none-some, same_Some}
use mathlib.Core.List.{List, [], ◌∷◌}
use Rattle.std.proofs.Math.Path.{refl}
use Rattle.std.proofs.Common.{sym, subst, ◌∙◌, arith}
use Rattle.std.proofs.Math.Dec.{eqb}
use Rattle.tree.specs.Tree.{Ident, Tree}
use Rattle.tree.specs.Core.{core}
use Rattle.scope_map.specs.ScopeMap.{Live, get, has_at_top}
use Rattle.semantic.specs.Information.{NONE, with_usage_count, mark_set, mark_builtin, mark_required, mark_shadowed}
use Rattle.semantic.specs.Amend.{used_or}
use Rattle.semantic.specs.Rows.{Row, Blank, Variable, Function, CallSite, Let}
use Rattle.semantic.specs.declared.IdentifierStatus.{IdentifierStatus}
use Rattle.semantic.specs.declared.SemanticInformation.{SemanticInformation}
use Rattle.pass.specs.State.{Entry, Capture, State, info_at, depth, newest, top_level_entry, used_entry, last_entry, entry_at, row_at, put_entry}
use Rattle.pass.specs.Read.{is_builtin, is_required, is_prelude, mark_if, note_live, enter, define_fact, enter_define, shadow_if_builtin, shadow, enter_top_level_value, Rule, no_entry, depth_one, current_layer, taken_capture, home_slot, capture_rule, entry_rule, rule_of, free_fact, heap_fact, has_number, capture_offsets, use_in, use_capture, count_uses, one_use_more, read_by, read, mutate_at, mutate}
use Rattle.pass_laws.specs.Sound.{Property, Counting, uses_in, Each, IsNamed}
use Rattle.pass_laws.specs.Laws.All.{all_map}
use Rattle.pass_laws.specs.Laws.Sound.Lists.{all_either, Maybe, Values, get_value, defined_values, defined_live}
use Rattle.pass_laws.specs.Laws.Sound.Each.{newest-held, each_either, each_noted, each_live, each_captures, each_insert, each_put, each_amend, each_mark, each_more}

-- a mark leaves a fact's count
pub marked_uses : (b : Bool) (f : SemanticInformation → SemanticInformation) (v : SemanticInformation) → (f v).usage_count ≡ v.usage_count
    → (mark_if b f v).usage_count ≡ v.usage_count
marked_uses true f v e = e
marked_uses false f v e = refl

-- a last use
pub last_none : (P : Ident → Type 0) {o : Option Ident} → o ≡ None → (y : Ident) → o ≡ Some y → P y
last_none P e y q = absurd (none-some y (sym e ∙ q))

pub last_some : (P : Ident → Type 0) (x : Ident) → P x → (y : Ident) → Some x ≡ Some y → P y
last_some P x p y q = subst P (same_Some x y q) p

-- A name enters

define-uses : (classes : List ℕ) (k : IdentifierStatus) (a : ℕ) (x : Ident) (b : Tree) (s : State) → (define_fact classes k a x b s).usage_count ≡ 0
unfolding define_fact
define-uses classes k a x b s = marked_uses (is_builtin classes (core b)) mark_builtin _ refl ∙ marked_uses (is_required classes (core b)) mark_required _ refl

module _ {Q : Property} {F : ℕ → Type 0} (unused : F 0) where
  live_noted : (b : Bool) (i : ℕ) {s : State} → Each Q F s → Each Q F (note_live b i s)
  live_noted true i h = each_noted _ h
  live_noted false i h = h

  pub each_enter : (x : Ident) (e : Entry) {s : State} → Q.ident x → e.last_used ≡ None → F e.usage_count → Each Q F s → Each Q F (enter x e s)
  unfolding enter
  each_enter x e {s} p n u h =
      each_put x e p (last_none Q.ident n) u
      (each_live _ (defined_live IsNamed x.name x s.scope.names refl h.named) (defined_values Q.ident x.name x s.scope.names p h.binders)
      (live_noted (ltb 1 (depth s) && has_at_top s.scope.names x.name) x.at h))

  module _ (classes : List ℕ) where
    pub each_define : (k : IdentifierStatus) (a : ℕ) (x : Ident) (b : Tree) {s : State} → Q.ident x → Each Q F s → Each Q F (enter_define classes k a x b s)
    unfolding enter_define
    each_define k a x b {s} p h = each_insert x.at _ (rw (define-uses classes k a x b s) unused) (each_enter x top_level_entry p refl unused h)

    each_shadow : (o : Option Ident) {s : State} → Each Q F s → Each Q F (shadow classes o s)
    each_shadow None h = h
    each_shadow (Some b) h = each_mark (shadow_if_builtin classes) b.at unused (λ v q. subst F (sym (marked_uses v.builtin mark_shadowed v refl)) q) h

    pub each_value : (x : Ident) (b : Tree) {s : State} → Q.ident x → Each Q F s → Each Q F (enter_top_level_value classes x b s)
    unfolding enter_top_level_value
    each_value x b {s} p h = each_define _ _ x b p (each_shadow (newest s x.name) h)

-- A use more

free_uses : (prelude : Bool) (d : ℕ) (x : Ident) → (free_fact prelude d x).usage_count ≡ 0
free_uses true d x = refl
free_uses false d x = refl

module _ {F : ℕ → ℕ → Type 0} (counting : Counting F) where
  pub each_grow : {Q : Property} (k m : ℕ) {s : State} → k ≤ m → Each Q (F k) s → Each Q (F m) s
  each_grow k m e h = each_more (λ n. counting.keep k m n e) h

  module _ (k : ℕ) where
    up : {Q : Property} {s : State} → Each Q (F k) s → Each Q (F (suc k)) s
    up h = each_grow k (suc k) (omega arith) h

    once : {n : ℕ} → n ≡ 1 → F (suc k) n
    once e = rw e (counting.more k 0 (counting.none k))

    used-row : (r : Row) (v : SemanticInformation) → v.usage_count ≡ 0 → F k (uses_in r) → F (suc k) (uses_in (used_or v r))
    used-row Blank v e q = rw e (counting.none (suc k))
    used-row (Variable w) v e q = counting.more k _ q
    used-row (Function w) v e q = counting.none (suc k)
    used-row (CallSite w) v e q = counting.none (suc k)
    used-row (Let w) v e q = counting.none (suc k)

    -- the newest capture of a name
    used_values : (x : ℕ) (l : List (Live Capture)) → Values (λ c. F k c.usage_count) l → Values (λ c. F (suc k) c.usage_count) (use_in x l)
    unfolding use_in
    used_values x [] p = tt
    used_values x (e ∷ l) p =
        let rest = all_map _ _ (λ c q. counting.keep k (suc k) _ (omega arith) q) l p.1 in
        all_either _ (eqb e.name x) _ _ (counting.more k _ p.0, rest) (counting.keep k (suc k) _ (omega arith) p.0, used_values x l p.1)

taken_values : (P : ℕ → Ident → Type 0) (x : ℕ) (l : List (Live Capture)) → Values (λ c. P c.row c.binder) l
    → Values (λ c. P c.row c.binder) (use_in x l)
unfolding use_in
taken_values P x [] p = tt
taken_values P x (e ∷ l) p = all_either _ (eqb e.name x) _ _ p (p.0, taken_values P x l p.1)

-- what a rule finds: a binder, and a capture
abbrev pub Found : (Ident → Type 0) → (Capture → Type 0) → Rule → Type 0
Found R P no_entry = Unit {0}
Found R P (depth_one b) = R b
Found R P (current_layer b) = R b
Found R P (taken_capture b c) = R b × P c
Found R P (home_slot b) = R b

module _ (R : Ident → Type 0) (P : Capture → Type 0) where
  found_either : (b : Bool) (q r : Rule) → Found R P q → Found R P r → Found R P (cond b q r)
  found_either true q r f g = f
  found_either false q r f g = g

  found_capture : (b : Ident) (o : Option (Live Capture)) → R b → Maybe (λ e. P e.value) o → Found R P (capture_rule b o)
  found_capture b None r p = r
  found_capture b (Some c) r p = (r, p)

  found_entry : (s : State) (x : ℕ) (o : Option Ident) → Maybe R o → Values P s.captures.live → Found R P (entry_rule s x o)
  found_entry s x None r p = tt
  found_entry s x (Some b) r p =
      found_either (eqb (entry_at s b.at).depth 1) _ _ r
      (found_either (eqb (entry_at s b.at).depth (depth s)) _ _ r (found_capture b (get s.captures x) r (get_value P s.captures.live x p)))

  pub found : (s : State) (x : ℕ) → Maybe R (newest s x) → Values P s.captures.live → Found R P (rule_of s x)
  unfolding rule_of
  found s x r p = found_entry s x (newest s x) r p

module _ {Q : Property} {F : ℕ → ℕ → Type 0} (counting : Counting F) (k : ℕ) where
  each_used : (x : ℕ) {s : State} → Each Q (F k) s → Each Q (F (suc k)) (use_capture x s)
  each_used x {s} h =
      let l = s.captures.live in
      each_captures _ (taken_values Q.capture x l h.taken) (used_values counting k x l h.capture_uses) (up counting k h)

  -- the binder's fact takes a count
  each_count : (n : ℕ) (b : Ident) {s : State} → F (suc k) n → Each Q (F (suc k)) s → Each Q (F (suc k)) (count_uses n b s)
  each_count n b p h = each_mark (with_usage_count n) b.at (counting.none (suc k)) (λ v q. p) h

  module _ (classes : List ℕ) where
    each_by : (r : Rule) (x : Ident) (s : State) → Q.ident x → Found Q.ident (λ c. F k c.usage_count) r → Each Q (F k) s → Each Q (F (suc k)) (read_by classes r x s)
    unfolding put_entry
    each_by no_entry x s p f h =
        let none_yet = free_uses (is_prelude classes x.name) (depth s) x in
        each_insert x.at _ (used-row counting k (row_at s x.at) _ none_yet (h.row_uses x.at)) (up counting k h)
    each_by (depth_one b) x s p f h =
        each_insert x.at _ (once counting k (marked_uses (is_prelude classes x.name) mark_builtin _ refl))
        (each_amend (F k) one_use_more b.at (counting.none (suc k)) (λ v q. counting.more k _ q) (h.row_uses b.at)
        (each_put b _ f (h.lasts b.at) (counting.more k _ (h.entry_uses b.at)) (up counting k h)))
    each_by (current_layer b) x s p f h =
        let e = last_entry x (used_entry (entry_at s b.at)) in
        let u = counting.more k _ (h.entry_uses b.at) in
        each_insert x.at _ (once counting k (marked_uses (e.captured && e.mutated) (heap_fact e) _ refl))
        (each_count _ b u (each_put b e f (last_some Q.ident x p) u (up counting k h)))
    each_by (taken_capture b c) x s p f h =
        let v = info_at s c.row in
        let read = each_insert x.at _ (once counting k (marked_uses (has_number v.read_capture_offset) (capture_offsets v) _ refl))
        (each_count _ c.binder (counting.more k _ f.1)
        (each_put b _ f.0 (last_some Q.ident x p) (counting.keep k (suc k) _ (omega arith) (h.entry_uses b.at)) (each_used x.name h))) in
        each_either (has_number v.read_capture_offset && eqb v.capture_offset NONE) (each_noted _ read) read
    each_by (home_slot b) x s p f h =
        let u = counting.more k _ (h.entry_uses b.at) in
        each_insert x.at _ (once counting k refl) (each_count _ b u (each_put b _ f (last_some Q.ident x p) u (up counting k h)))

    pub each_read : (x : Ident) {s : State} → Q.ident x → Each Q (F k) s → Each Q (F (suc k)) (read classes x s)
    unfolding read
    each_read x {s} p h = each_by (rule_of s x.name) x s p (found Q.ident (λ c. F k c.usage_count) s x.name (newest-held x.name h) h.capture_uses) h

  each_set : (o : Option Ident) {s : State} → Maybe Q.ident o → Each Q (F k) s → Each Q (F (suc k)) (mutate_at o s)
  each_set None o h = up counting k h
  each_set (Some b) o h =
      each_mark mark_set b.at (counting.none (suc k)) (λ v q. q)
      (each_put b _ o (h.lasts b.at) (counting.more k _ (h.entry_uses b.at)) (up counting k h))

  pub each_mutate : (x : ℕ) {s : State} → Each Q (F k) s → Each Q (F (suc k)) (mutate x s)
  unfolding mutate
  each_mutate x {s} h = each_set (newest s x) (newest-held x h) h
