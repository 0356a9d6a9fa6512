-- A name is read or set on a second run: which rule decides, what the row tells, and what is left.
use Rattle.std.specs.Prelude.{ℕ, zero, suc, ◌+◌, ◌≤◌, ◌<◌, List, [], ◌∷◌, Bool, cond, ◌&&◌, ◌≡◌, length, get_or, set, eqb, ltb, Option, None, Some}
use Rattle.std.proofs.lemmas.Option.{same_Some, none-some}
use Rattle.std.proofs.Math.Bool.{true, false}
use Rattle.std.proofs.Math.Path.{refl, ap, sym, subst}
use Rattle.std.proofs.Common.{◌∙◌, arith}
use borrow.Author.Tests.{ltb-true, eq-eqb, ne_eqb}
use Rattle.tree.specs.Tree.{Ident, Node}
use Rattle.tree.specs.Accepted.{All}
use Rattle.scope_map.specs.ScopeMap.{Live, get_in, get}
use Rattle.semantic.specs.Information.{NONE}
use Rattle.semantic.specs.Rows.{ListEntry, no_list_entry}
use Rattle.pass.specs.State.{Entry, Facts, Capture, State, info_at, entry_at, depth, binder_in}
use Rattle.pass.specs.Read.{Rule, no_entry, depth_one, current_layer, taken_capture, capture_rule, entry_rule, rule_of, has_number}
use Rattle.pass.specs.Lists.{name_of}
use Rattle.pass_laws.specs.Laws.Changes.{Changes}
use Rattle.pass_laws.specs.Laws.Moves.{by}
use Rattle.pass_laws.specs.Laws.Leaves.{names}
use Rattle.pass_laws.specs.Laws.Says.{is_set_in, used_inside}
use Rattle.pass_laws.specs.Laws.Finds.{entry_in, Around, Global, all_map, all_zip, live_in, Of, of_none, of_some, Got, got_some}
use Rattle.pass_laws.specs.Laws.Onward.{Parts}
use Rattle.pass_laws.specs.Laws.Idle.{Idle}
use Rattle.r7rs.specs.Binding.{Binder, Place, find}
use Rattle.execution.proofs.Laws.Settled.Listed.{times_in}
use Rattle.execution.proofs.Laws.Settled.Kept.{count_from}
use Rattle.execution.proofs.Laws.Settled.Layer.{Lives, or_else, get-append}
use Rattle.execution.proofs.Laws.Settled.Again.{Frame, HeldAs, Stands, set-held, CaughtOf, none_of, one_of, CaughtIn, MutatedIn, OffsetsIn, is_twelve_by, Catch, Framed, FramedIn, Script, Again, again-deep, search_again, onward_again}
use Rattle.execution.proofs.Laws.Settled.Told.{head_of, InnerIn}

-- no entry has the name
pub count_none : (C : List ListEntry) (x r k : ℕ) → ((q : ℕ) → r ≤ q → q < r + k → ¬ (name_of (get_or C q no_list_entry) ≡ x)) → count_from C x r k ≡ 0
unfolding count_from
count_none C x r zero h = refl
count_none C x r (suc k) h = rw (ne_eqb (name_of (get_or C r no_list_entry)) x (h r (omega arith) (omega arith)))
    (count_none C x (suc r) k (λ q a b. h q (omega arith) (omega arith)))

pub times-some : (x : ℕ) (sc : List Binder) {b : Binder} → find sc x ≡ Some b → 1 ≤ times_in x sc
unfolding times_in
times-some x [] e = absurd (none-some _ e)
times-some x (c ∷ sc) {b} e = go (eqb c.ident.name x) (λ q. times-some x sc q) e
  where
    go : (q : Bool) → (find sc x ≡ Some b → 1 ≤ times_in x sc) → cond q (Some c) (find sc x) ≡ Some b → 1 ≤ cond q (suc (times_in x sc)) (times_in x sc)
    go true k e = omega arith
    go false k e = k e

-- The capture of a name that the innermost lambda takes
pub record Takes (S : Script) (fr : Option Frame) (s : State) (top : Lives) (p : Place) (x : ℕ) (b : Binder) : Type 0 where
  pub capture : Live Capture
  pub found : get_in top x ≡ Some capture
  pub binder : capture.value.binder ≡ b.ident
  pub mutated : (info_at s capture.value.row).mutated ≡ is_set_in b.ident.at (S.G (head_of p.around))
  pub refused : (has_number (info_at s capture.value.row).read_capture_offset && eqb (info_at s capture.value.row).capture_offset NONE)
      ≡ is_twelve_by S.G p.scope x b p.around

takes : (S : Script) (f : Frame) (s : State) (top : Lives) (p : Place) (x : ℕ) (b : Binder) → Framed S.C S.G f p
    → MutatedIn S.C (Some f) s.facts.captured
    → OffsetsIn (Some f) top s.facts.captured → find p.scope x ≡ Some b → ltb (length b.around) (length p.around) ≡ true
    → All (λ k. used_inside b.ident.at (S.G k) ≡ true) p.around
    → (o : Option (Live Capture)) → get_in top x ≡ o → CaughtOf S.C f.lo f.hi x o → Takes S (Some f) s top p x b
takes S f s top p x b w m os e i u None g (none_of n) =
    let k = w.outer x b e i in
    let used : used_inside b.ident.at f.after ≡ true = ap (used_inside b.ident.at) (sym w.ends) ∙ (subst
    (All (λ k. used_inside b.ident.at (S.G k) ≡ true)) w.around u).0 in
    let t = w.list.times x b k.1 k.0 used in
    let z = count_none S.C x f.lo w.list.long (λ q a c. n q a (omega (arith, w.list.to))) in
    absurd (omega (arith, times-some x f.sc k.0))
takes S f s top p x b w m os e i u (Some c) g (one_of l h n d) =
    let k = w.outer x b e i in
    let here = ap (λ (l : List ℕ). S.G (head_of l)) w.around ∙ w.ends in
    let t = w.list.taken c.value.row l h in
    let name : t.binder.ident.name ≡ x = ap (λ (y : Ident). y.name) (sym t.is) ∙ n in
    let same : t.binder ≡ b = same_Some t.binder b (sym t.found ∙ ap (find f.sc) name ∙ k.0) in
    record {
      capture = c;
      found = g;
      binder = d ∙ t.is ∙ ap (λ (y : Binder). y.ident) same;
      mutated = m c.value.row l h ∙ t.mutated ∙ (λ j. is_set_in (same j).ident.at (sym here j));
      refused = (os x c g).refused ∙ w.refuses x b e i u;
    }

takes_in : (S : Script) (fr : Option Frame) (s : State) (top : Lives) (p : Place) (x : ℕ) (b : Binder) → FramedIn S.C S.G fr p
    → MutatedIn S.C fr s.facts.captured
    → OffsetsIn fr top s.facts.captured → find p.scope x ≡ Some b → ltb (length b.around) (length p.around) ≡ true
    → All (λ k. used_inside b.ident.at (S.G k) ≡ true) p.around
    → CaughtIn S.C fr x (get_in top x) → Takes S fr s top p x b
takes_in S None s top p x b w m os e i u c = absurd (omega (arith, ltb-true (length b.around) (length p.around) i, ap length w))
takes_in S (Some f) s top p x b w m os e i u c = takes S f s top p x b w m os e i u (get_in top x) refl c

-- Which rule decides

pub data Rereads (S : Script) (own : ℕ → Type 0) (fr : Option Frame) (s : State) (top : Lives) (p : Place) (bottom : List (Live Ident)) (x : ℕ) : Option Binder
    → Rule → Type 0 where
  again-none : binder_in (get_in bottom x) ≡ None → Rereads S own fr s top p bottom x None no_entry
  again_global : {d : Ident} → binder_in (get_in bottom x) ≡ Some d → (entry_at s d.at).depth ≡ 1 → (own d.at → ⊥)
      → Rereads S own fr s top p bottom x None (depth_one d)
  again-own : {b : Binder} → Stands S.U own s.scope.entries b → ltb (length b.around) (length p.around) ≡ false
      → Rereads S own fr s top p bottom x (Some b) (current_layer b.ident)
  again_outer : {b : Binder} → Stands S.U own s.scope.entries b → ltb (length b.around) (length p.around) ≡ true → (t : Takes S fr s top p x b)
      → Rereads S own fr s top p bottom x (Some b) (taken_capture b.ident t.capture.value)

module _ (S : Script) {own : ℕ → Type 0} {bottom : List (Live Ident)} {function : Option Node} {fr : Option Frame} {d : ℕ} {old : Lives} {p : Place} {s : State}
    (f : Again S own bottom function fr d old p s) where
  abbrev top_of : Lives
  top_of = f.captures.top

  Inner : ℕ → Type 0
  Inner x = (b : Binder) → find p.scope x ≡ Some b → ltb (length b.around) (length p.around) ≡ true → All
      (λ k. used_inside b.ident.at (S.G k) ≡ true) p.around

  rule_bound : FramedIn S.C S.G fr p → (x : ℕ) (b : Binder) (e : ℕ) (i : Bool) → Inner x → find p.scope x ≡ Some b
      → Around p.site.layer p.around b → Stands S.U own s.scope.entries b → e ≡ b.home.layer
      → ltb (length b.around) (length p.around) ≡ i
      → Rereads S own fr s top_of p bottom x (Some b)
      (cond (eqb e 1) (depth_one b.ident) (cond (eqb e (depth s)) (current_layer b.ident) (capture_rule b.ident (get s.captures x))))
  unfolding Inner
  rule_bound w x b e true n g a k h i =
      let t = takes_in S fr s top_of p x b w f.captures.mutated f.captures.offsets g i (n b g i) (f.captures.caught x) in
      let got : get s.captures x ≡ Some t.capture = ap (λ (l : Lives). get_in l x) f.captures.live ∙ get-append top_of old x ∙ ap
      (λ (o : Option (Live Capture)). or_else o (get_in old x)) t.found in
      rw (ne_eqb e 1 (λ z. omega (arith, a.above)), ne_eqb e (depth s) (λ z. omega (arith, again-deep S f, a.outer i)), got) (again_outer k i t)
  rule_bound w x b e false n g a k h i = rw (ne_eqb e 1 (λ z. omega (arith, a.above)), eq-eqb e (depth s) (h ∙ a.own i ∙ sym (again-deep S f)))
      (again-own k i)

  rule_for : FramedIn S.C S.G fr p → (x : ℕ) {o : Option Binder} → Inner x → find p.scope x ≡ o
      → Of (λ b. Around p.site.layer p.around b × Stands S.U own s.scope.entries b) o → (q : Option (Live Ident)) → get_in bottom x ≡ q
      → Got (Global own s.scope.entries) q → Rereads S own fr s top_of p bottom x o (entry_rule s x (binder_in (live_in o q)))
  rule_for w x n g of_none None e k = again-none (ap binder_in e)
  rule_for w x n g of_none (Some l) e (got_some k) = rw (eq-eqb _ 1 k.depth) (again_global (ap binder_in e) k.depth k.apart)
  rule_for w x n g (of_some {b} (a, k)) q e z = rule_bound w x b _ (ltb (length b.around) (length p.around)) n g a k k.held.depth refl

  pub rules_again : FramedIn S.C S.G fr p → (x : Ident) (is_set : Bool)
      → All (λ k. InnerIn (S.G k) (record { ident = x; is_set = is_set; place = p })) p.around
      → Rereads S own fr s top_of p bottom x.name (find p.scope x.name) (rule_of s x.name)
  unfolding rule_of Inner
  rules_again w x is_set n =
      let q = search_again S f x.name in
      subst (λ (o : Option (Live Ident)). Rereads S own fr s top_of p bottom x.name (find p.scope x.name) (entry_rule s x.name (binder_in o)))
      (sym q.found)
      (rule_for w x.name (λ b e i. all_map (λ k h. h b e i) p.around n) refl q.meant (get_in bottom x.name) refl q.global)

  -- What is left

  -- the entry of the record i is put
  pub used-again : {out left : ℕ → Type 0} {t : State} (i : ℕ) (e : Entry) → Parts own out left
      → ((b : Binder) → 2 ≤ b.home.layer → HeldAs S.U (entry_in s.scope.entries b.ident.at) b → b.ident.at ≡ i → HeldAs S.U e b)
      → Changes out s t → names t ≡ names s → Idle s t → Catch S.C fr d old t → t.scope.entries ≡ set s.scope.entries i e
      → Again S left bottom function fr d old p t
  used-again {left = left} i e parts g c n l m k =
      onward_again S f parts (by c) n (ap (λ (h : Facts). h.arguments) l) m
      (subst (λ (E : List Entry). All (Stands S.U left E) p.scope) (sym k)
      (all_map (λ b h. record {
        held = set-held s.scope.entries i e b h.0.above h.1.held (g b h.0.above h.1.held);
        apart = λ o. h.1.apart (parts.kept b.ident.at o);
      }) p.scope (all_zip _ _ p.scope f.around f.stands)))
