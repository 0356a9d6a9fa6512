-- On entering a lambda a second run numbers the entries of its list, and each becomes its name's newest capture: then every name of the list, and no
-- other, is found in the newest layer, as a capture of one of its entries.
use Prim.Native.Nat.{ℕ, zero, suc, ◌+◌, ◌≤◌, ◌<◌}
use Rattle.std.specs.Prelude.{List, [], ◌++◌, Bool, true, false, cond, not, ◌≡◌, refl, length, get_or, set, Option, None, Some}
use Rattle.std.proofs.Common.{true≢false, ◌∙◌, arith, get_or-set_same}
use Rattle.std.proofs.Math.Path.{ap, sym, subst}
use Rattle.std.proofs.Math.Decide.{ℕ_discrete, dec_lt}
use Rattle.std.proofs.Math.Seq.{get_or-set_other, set_out}
use Rattle.tree.specs.Tree.{Ident}
use Rattle.scope_map.specs.ScopeMap.{Live, get_in}
use Rattle.semantic.specs.Rows.{ListEntry, no_list_entry}
use Rattle.semantic.specs.ListEntries.{on_info}
use Rattle.semantic.specs.declared.ScopeInfo.{ScopeInfo}
use Rattle.semantic.specs.declared.ListAt.{ListAt}
use Rattle.pass.specs.State.{Capture, State, list_entry_at}
use Rattle.pass.specs.Lists.{name_of, near, is_near, is_of, capture_of, number_row, number_rows, numbered_capture, numbered_heap, number_list}
use Rattle.pass_laws.specs.Laws.Keeps.{Off}
use Rattle.execution.proofs.Laws.Settled.Layer.{Lives, InLayer, Below, puts}

-- an entry with other offsets
pub record Same (i j : ListEntry) : Type 0 where
  pub binder : j.binder ≡ i.binder
  pub mutated : j.info.mutated ≡ i.info.mutated

same : {i : ListEntry} → Same i i
same = record { binder = refl; mutated = refl }

same_then : {i j k : ListEntry} → Same i j → Same j k → Same i k
same_then p q = record { binder = q.binder ∙ p.binder; mutated = q.mutated ∙ p.mutated }

-- an entry is written anew at the row r
written : (C : List ListEntry) (r : ℕ) (v : ListEntry) → Same (get_or C r no_list_entry) v → (q : ℕ) → Same (get_or C q no_list_entry) (get_or (set C r v) q no_list_entry)
written C r v e q = go (ℕ_discrete q r) (dec_lt r (length C))
  where
    go : Dec (q ≡ r) → Dec (r < length C) → Same (get_or C q no_list_entry) (get_or (set C r v) q no_list_entry)
    go (no d) h = rw (get_or-set_other C r q v no_list_entry d) same
    go (yes d) (yes h) = rw (d, get_or-set_same C r v no_list_entry h) e
    go (yes d) (no h) = rw (set_out C r v (omega arith)) same

module _ (which : Bool) (numbered : ℕ → Option ScopeInfo → ScopeInfo → ScopeInfo) (keeps : (i : ℕ) (o : Option ScopeInfo) (v : ScopeInfo)
    → (numbered i o v).mutated ≡ v.mutated) where
  abbrev is_of_lem : State → ℕ → Bool
  is_of_lem s q = is_of which numbered (list_entry_at s q)

  -- What the newest layer has of the name x, once the rows from lo up to r are numbered: what it had, in o, or a capture of one of these
  pub data Got (lo r : ℕ) (s : State) (x : ℕ) (o : Option (Live Capture)) : Option (Live Capture) → Type 0 where
    got_old : ((q : ℕ) → lo ≤ q → q < r → is_of_lem s q ≡ true → ¬ (name_of (list_entry_at s q) ≡ x)) → Got lo r s x o o
    got_new : {c : Live Capture} → lo ≤ c.value.row → c.value.row < r → is_of_lem s c.value.row ≡ true → name_of (list_entry_at s c.value.row) ≡ x
        → c.value.binder ≡ (list_entry_at s c.value.row).binder → Got lo r s x o (Some c)

  -- The rows from lo up to r are numbered, from the state s on
  pub record Pass (lo r d : ℕ) (l old : Lives) (s t : State) : Type 0 where
    pub top : Lives
    pub depth : t.captures.depth ≡ d
    pub live : t.captures.live ≡ top ++ old
    pub layer : InLayer d top
    pub list_entries : (q : ℕ) → Same (list_entry_at s q) (list_entry_at t q)
    pub outside : (q : ℕ) → Off lo r q → list_entry_at t q ≡ list_entry_at s q
    pub got : (x : ℕ) → Got lo r s x (get_in l x) (get_in top x)
    pub rows : t.facts.rows ≡ s.facts.rows
    pub arguments : t.facts.arguments ≡ s.facts.arguments

  more-old : {lo r : ℕ} {s : State} {x : ℕ} {o g : Option (Live Capture)} → (is_of_lem s r ≡ true → ¬ (name_of (list_entry_at s r) ≡ x)) → Got lo r s x o g
      → Got lo (suc r) s x o g
  more-old {lo} {r} {s} {x} n (got_old f) = got_old (λ q a b. go q a b (ℕ_discrete q r))
    where
      go : (q : ℕ) → lo ≤ q → q < suc r → Dec (q ≡ r) → is_of_lem s q ≡ true → ¬ (name_of (list_entry_at s q) ≡ x)
      go q a b (yes e) = subst (λ (k : ℕ). is_of_lem s k ≡ true → ¬ (name_of (list_entry_at s k) ≡ x)) (sym e) n
      go q a b (no e) = f q a (omega arith)
  more-old n (got_new a b c d e) = got_new a (omega arith) c d e

  module _ {lo r d : ℕ} {l old : Lives} {s t : State} (below : Below d old) (i : ℕ) (p : Pass lo r d l old s t) (h : lo ≤ r) where
    -- the row r is not numbered, or it is

    skips : is_of_lem s r ≡ false → Pass lo (suc r) d l old s t
    skips e =
        record {
          top = p.top;
          depth = p.depth;
          live = p.live;
          layer = p.layer;
          list_entries = p.list_entries;
          outside = λ q o. p.outside q (λ a b. o a (omega arith));
          got = λ x. more-old (λ z. absurd (true≢false (sym z ∙ e))) (p.got x);
          rows = p.rows;
          arguments = p.arguments;
        }

    numbers : is_of_lem s r ≡ true → list_entry_at t r ≡ list_entry_at s r → Pass lo (suc r) d l old s (number_row which numbered r i (list_entry_at t r) t)
    unfolding number_row
    numbers e z =
        let x = list_entry_at t r in
        let c = capture_of which numbered r (is_near (near t x.binder.name)) x in
        let u = puts d x.binder.name c p.top old t.captures p.depth p.live p.layer below in
        record {
          top = u.top;
          depth = p.depth;
          live = u.is;
          layer = u.layer;
          list_entries = λ q. same_then (p.list_entries q)
              (written t.facts.captured r (on_info (numbered i (near t x.binder.name)) x)
              (record { binder = refl; mutated = keeps i (near t x.binder.name) x.info }) q);
          outside = λ q o. get_or-set_other t.facts.captured r q _ no_list_entry (λ k. o (omega arith) (omega arith)) ∙ p.outside q (λ a b. o a (omega arith));
          got = λ y. named u.top y (ℕ_discrete y x.binder.name) u.here (u.others y);
          rows = p.rows;
          arguments = p.arguments;
        }
      where
        named : (m : Lives) (y : ℕ) → Dec (y ≡ (list_entry_at t r).binder.name)
            → get_in m (list_entry_at t r).binder.name ≡ Some (record {
              name = (list_entry_at t r).binder.name;
              layer = d;
              value = capture_of which numbered r
                  (is_near (near t (list_entry_at t r).binder.name)) (list_entry_at t r);
            })
            → (¬ (y ≡ (list_entry_at t r).binder.name) → get_in m y ≡ get_in p.top y) → Got lo (suc r) s y (get_in l y) (get_in m y)
        named m y (yes q) here others =
            subst (λ (o : Option (Live Capture)). Got lo (suc r) s y (get_in l y) o) (sym (ap (get_in m) q ∙ here))
            (got_new h (omega arith) e (ap name_of (sym z) ∙ sym q) (ap (λ (v : ListEntry). v.binder) z))
        named m y (no q) here others =
            subst (λ (o : Option (Live Capture)). Got lo (suc r) s y (get_in l y) o) (sym (others q))
            (more-old (λ k n. q (sym n ∙ ap name_of (sym z))) (p.got y))

    pub next : Pass lo (suc r) d l old s (cond (is_of_lem t r) (number_row which numbered r i (list_entry_at t r) t) t)
    next = go (is_of_lem s r) refl
      where
        unnumbered : list_entry_at t r ≡ list_entry_at s r
        unnumbered = p.outside r (λ a b. omega arith)

        go : (b : Bool) → is_of_lem s r ≡ b → Pass lo (suc r) d l old s (cond (is_of_lem t r) (number_row which numbered r i (list_entry_at t r) t) t)
        go true e = rw (ap (is_of which numbered) unnumbered ∙ e) (numbers e unnumbered)
        go false e = rw (ap (is_of which numbered) unnumbered ∙ e) (skips e)

  pub passes : {lo d : ℕ} {l old : Lives} {s : State} → Below d old → (k r i : ℕ) (t : State) → lo ≤ r → Pass lo r d l old s t
      → Pass lo (r + k) d l old s (number_rows which numbered k r i t)
  unfolding number_rows
  passes {lo} {d} {l} {old} {s} below zero r i t h p = subst (λ (m : ℕ). Pass lo m d l old s t) (omega arith) p
  passes {lo} {d} {l} {old} {s} below (suc k) r i t h p =
      let q = passes below k (suc r) _ _ (omega arith) (next below i p h) in
      subst (λ (m : ℕ). Pass lo m d l old s (number_rows which numbered (suc k) r i t)) (omega arith) q

  pub starts : (lo d : ℕ) (l old : Lives) (s : State) → s.captures.depth ≡ d → s.captures.live ≡ l ++ old → InLayer d l → Pass lo lo d l old s s
  starts lo d l old s e g a =
      record {
        top = l;
        depth = e;
        live = g;
        layer = a;
        list_entries = λ q. same;
        outside = λ q o. refl;
        got = λ x. got_old (λ q a b. absurd (omega arith));
        rows = refl;
        arguments = refl;
      }

-- Both: the entries that are not mutated, then those that are

pub data Caught (lo hi : ℕ) (s : State) (x : ℕ) : Option (Live Capture) → Type 0 where
  none_caught : ((q : ℕ) → lo ≤ q → q < hi → ¬ (name_of (list_entry_at s q) ≡ x)) → Caught lo hi s x None
  one_caught : {c : Live Capture} → lo ≤ c.value.row → c.value.row < hi → name_of (list_entry_at s c.value.row) ≡ x
      → c.value.binder ≡ (list_entry_at s c.value.row).binder
      → Caught lo hi s x (Some c)

pub record Numbered (lo hi d : ℕ) (old : Lives) (s t : State) : Type 0 where
  pub top : Lives
  pub depth : t.captures.depth ≡ d
  pub live : t.captures.live ≡ top ++ old
  pub layer : InLayer d top
  pub list_entries : (q : ℕ) → Same (list_entry_at s q) (list_entry_at t q)
  pub outside : (q : ℕ) → Off lo hi q → list_entry_at t q ≡ list_entry_at s q
  pub caught : (x : ℕ) → Caught lo hi s x (get_in top x)
  pub rows : t.facts.rows ≡ s.facts.rows
  pub arguments : t.facts.arguments ≡ s.facts.arguments

pub numbered-list : (e : ListAt) (d : ℕ) (old : Lives) (s : State) → s.captures.depth ≡ d → s.captures.live ≡ old → Below d old
    → Numbered e.first (e.first + e.length) d old s (number_list e s)
unfolding number_list get_in
numbered-list e d old s h g below =
    let lo = e.first in
    let p = passes false numbered_capture (λ i o v. refl) below e.length lo 0 s (omega arith)
    (starts false numbered_capture (λ i o v. refl) lo d [] old s h g tt) in
    let u = number_rows false numbered_capture e.length lo 0 s in
    let q = passes true numbered_heap (λ i o v. refl) below e.length lo 0 u (omega arith)
    (starts true numbered_heap (λ i o v. refl) lo d p.top old u p.depth p.live p.layer) in
    record {
      top = q.top;
      depth = q.depth;
      live = q.live;
      layer = q.layer;
      list_entries = λ k. same_then (p.list_entries k) (q.list_entries k);
      outside = λ k o. q.outside k o ∙ p.outside k o;
      caught = λ x. second u p.list_entries x (p.got x) (q.got x);
      rows = q.rows ∙ p.rows;
      arguments = q.arguments ∙ p.arguments;
    }
  where
    hi : ℕ
    hi = e.first + e.length

    -- none of either kind
    neither : (u : State) → ((k : ℕ) → Same (list_entry_at s k) (list_entry_at u k)) → (x : ℕ)
        → ((k : ℕ) → e.first ≤ k → k < hi → is_of false numbered_capture (list_entry_at s k) ≡ true → ¬ (name_of (list_entry_at s k) ≡ x))
        → ((k : ℕ) → e.first ≤ k → k < hi → is_of true numbered_heap (list_entry_at u k) ≡ true → ¬ (name_of (list_entry_at u k) ≡ x))
        → (k : ℕ) → e.first ≤ k → k < hi → ¬ (name_of (list_entry_at s k) ≡ x)
    neither u w x f g k a b = go (list_entry_at s k).info.mutated refl
      where
        go : (m : Bool) → (list_entry_at s k).info.mutated ≡ m → ¬ (name_of (list_entry_at s k) ≡ x)
        go true m n = g k a b ((w k).mutated ∙ m) (ap (λ (i : Ident). i.name) (w k).binder ∙ n)
        go false m n = f k a b (ap not m) n

    second : (u : State) → ((k : ℕ) → Same (list_entry_at s k) (list_entry_at u k)) → (x : ℕ) {o g : Option (Live Capture)}
        → Got false numbered_capture (λ i o v. refl) e.first hi s x None o
        → Got true numbered_heap (λ i o v. refl) e.first hi u x o g → Caught e.first hi s x g
    second u w x (got_old f) (got_old k) = none_caught (neither u w x f k)
    second u w x (got_new a b c d f) (got_old k) = one_caught a b d f
    second u w x p (got_new {c = v} a b c d f) =
        one_caught a b (ap (λ (i : Ident). i.name) (sym (w v.value.row).binder) ∙ d) (f ∙ (w v.value.row).binder)
