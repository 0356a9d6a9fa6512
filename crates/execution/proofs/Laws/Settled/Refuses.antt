-- The offsets of a lambda's list, and which reads they refuse: a name's capture has a read offset and no capture offset exactly if the name is not set
-- by the lambda's end, is in scope once, and is taken by the lambda around and set by that one's end.
use Rattle.std.specs.Prelude.{ℕ, zero, suc, ◌+◌, ◌-◌, ◌≤◌, ◌<◌, List, [], ◌∷◌, ◌++◌, Bool, true, false, cond, not, ◌&&◌, ◌≡◌, refl, get_or, eqb, leb, Option, None, Some}
use Rattle.std.proofs.lemmas.Option.{same_Some}
use Rattle.std.proofs.Common.{true≢false, ap, sym, subst, ◌∙◌, arith, eq-eqb, ne_eqb, leb-true}
use Rattle.std.proofs.Math.Decide.{ℕ_discrete, dec_lt}
use Rattle.tree.specs.Tree.{Ident, Node}
use Rattle.scope_map.specs.ScopeMap.{Live, get_in, push_layer}
use Rattle.semantic.specs.Information.{NONE}
use Rattle.semantic.specs.Rows.{ListEntry, no_list_entry}
use Rattle.pass.specs.State.{Capture, State, list_entry_at, info_at, with_captures}
use Rattle.pass.specs.Lists.{name_of, near, near_in, number_list}
use Rattle.pass_laws.specs.Laws.Keeps.{Off}
use Rattle.pass_laws.specs.Laws.Says.{used_inside, is_set_in}
use Rattle.r7rs.specs.Binding.{Binder, Place, Use, find}
use Rattle.execution.specs.Acceptance.{has_name}
use Rattle.execution.proofs.Laws.Settled.Listed.{Taken, times_in}
use Rattle.execution.proofs.Laws.Settled.Kept.{count_from, LambdaKept}
use Rattle.execution.proofs.Laws.Settled.Layer.{Lives, InLayer, Below, or_else, get-append}
use Rattle.execution.proofs.Laws.Settled.Numbered.{Same}
use Rattle.execution.proofs.Laws.Settled.Offsets.{is_unread, Flag, once, twice, Flagged, flagged-list, old_layer, get_layer, no_number}
use Rattle.execution.proofs.Laws.Settled.Again.{Frame, CaughtOf, none_of, one_of, CaughtIn, MutatedIn, OffsetsAt, OffsetsIn, Catch, Framed, FramedIn, Script, Again}
use Rattle.execution.proofs.Laws.Settled.Rereads.{count_none, times-some}

-- the list of the lambda around has its rows from `hi` on
abbrev pub Above : ℕ → Option Frame → Type 0
Above hi None = Unit {0}
Above hi (Some f) = hi ≤ f.lo

-- a name that the lambda around takes, and that is set by its end

abbrev pub held_of : Frame → Option Binder → Bool
held_of f None = false
held_of f (Some b) = used_inside b.ident.at f.after && is_set_in b.ident.at f.after

abbrev pub held_set : Option Frame → ℕ → Bool
held_set None x = false
held_set (Some f) x = cond (has_name x f.xs) false (held_of f (find f.sc x))

-- a read of the name is refused in a lambda where sc is in scope, with the uses `after` by its end, inside the lambda o
abbrev pub refuses_binder : Option Frame → List Binder → List Use → ℕ → Option Binder → Bool
refuses_binder o sc after x None = false
refuses_binder o sc after x (Some b) = not (is_set_in b.ident.at after) && (eqb (times_in x sc) 1 && held_set o x)

abbrev pub refuses_of : Option Frame → List Binder → List Use → ℕ → Bool
refuses_of o sc after x = refuses_binder o sc after x (find sc x)

abbrev pub frame_of : Option Frame → Node → ℕ → ℕ → List Ident → List Binder → List Use → Frame
frame_of o n lo hi xs sc after = record { at = n.at; lo = lo; hi = hi; xs = xs; sc = sc; after = after; refuses = refuses_of o sc after }

-- the entries of the rows from lo up to hi are as the first run left them
pub record Pending (C : List ListEntry) (lo hi : ℕ) (s : State) : Type 0 where
  pub at : (r : ℕ) → lo ≤ r → r < hi → list_entry_at s r ≡ get_or C r no_list_entry

pub below_all_lem : (d : ℕ) (top old : Lives) → InLayer d top → Below d old → Below (suc d) (top ++ old)
below_all_lem d [] [] a b = tt
below_all_lem d [] (e ∷ old) a b = (omega (arith, b.0), below_all_lem d [] old a b.1)
below_all_lem d (e ∷ top) old a b = (omega (arith, a.0), below_all_lem d top old a.1 b)

-- How often a name stands in a list

some-row : (C : List ListEntry) (x r k row : ℕ) → r ≤ row → row < r + k → name_of (get_or C row no_list_entry) ≡ x → 1 ≤ count_from C x r k
unfolding count_from
some-row C x r zero row a b e = absurd (omega arith)
some-row C x r (suc k) row a b e = go (eqb (name_of (get_or C r no_list_entry)) x) refl (ℕ_discrete row r) (λ n. some-row C x (suc r) k row (omega arith) (omega arith) e)
  where
    go : (q : Bool) → eqb (name_of (get_or C r no_list_entry)) x ≡ q → Dec (row ≡ r) → (¬ (row ≡ r) → 1 ≤ count_from C x (suc r) k)
        → 1 ≤ cond q (suc (count_from C x (suc r) k)) (count_from C x (suc r) k)
    go true q d h = omega arith
    go false q (yes d) h = absurd (true≢false (sym (eq-eqb (name_of (get_or C r no_list_entry)) x (ap (λ (v : ℕ). name_of (get_or C v no_list_entry)) (sym d) ∙ e)) ∙ q))
    go false q (no d) h = h d

one-row : (C : List ListEntry) (x r k row : ℕ) → r ≤ row → row < r + k → name_of (get_or C row no_list_entry) ≡ x
    → ((q : ℕ) → r ≤ q → q < r + k → name_of (get_or C q no_list_entry) ≡ x → q ≡ row) → count_from C x r k ≡ 1
unfolding count_from
one-row C x r zero row a b e f = absurd (omega arith)
one-row C x r (suc k) row a b e f =
    go (ℕ_discrete row r) (λ n. one-row C x (suc r) k row (omega arith) (omega arith) e (λ q u v z. f q (omega arith) (omega arith) z))
  where
    go : Dec (row ≡ r) → (¬ (row ≡ r) → count_from C x (suc r) k ≡ 1)
        → cond (eqb (name_of (get_or C r no_list_entry)) x) (suc (count_from C x (suc r) k)) (count_from C x (suc r) k) ≡ 1
    go (yes d) h =
        rw (eq-eqb (name_of (get_or C r no_list_entry)) x (ap (λ (v : ℕ). name_of (get_or C v no_list_entry)) (sym d) ∙ e))
        (ap suc (count_none C x (suc r) k (λ q u v z. let w = f q (omega arith) (omega arith) z in omega arith)))
    go (no d) h = rw (ne_eqb (name_of (get_or C r no_list_entry)) x (λ z. d (sym (f r (omega arith) (omega arith) z)))) (h d)

two_rows : (C : List ListEntry) (x r k a b : ℕ) → r ≤ a → a < b → b < r + k → name_of (get_or C a no_list_entry) ≡ x → name_of (get_or C b no_list_entry) ≡ x → 2 ≤ count_from C x r k
unfolding count_from
two_rows C x r zero a b h₁ h₂ h₃ e g = absurd (omega arith)
two_rows C x r (suc k) a b h₁ h₂ h₃ e g =
    go (eqb (name_of (get_or C r no_list_entry)) x) refl (ℕ_discrete a r) (some-row C x (suc r) k b (omega arith) (omega arith) g)
    (λ n. two_rows C x (suc r) k a b (omega arith) h₂ (omega arith) e g)
  where
    go : (q : Bool) → eqb (name_of (get_or C r no_list_entry)) x ≡ q → Dec (a ≡ r) → 1 ≤ count_from C x (suc r) k → (¬ (a ≡ r) → 2 ≤ count_from C x (suc r) k)
        → 2 ≤ cond q (suc (count_from C x (suc r) k)) (count_from C x (suc r) k)
    go true q d h k' = omega arith
    go false q (yes d) h k' = absurd (true≢false (sym (eq-eqb (name_of (get_or C r no_list_entry)) x (ap (λ (v : ℕ). name_of (get_or C v no_list_entry)) (sym d) ∙ e)) ∙ q))
    go false q (no d) h k' = k' d

-- What the lambda around took

-- the entry that is taken, by the list
pub record Held (f : Frame) (x : ℕ) (i : ListEntry) : Type 0 where
  pub binder : Binder
  pub found : find f.sc x ≡ Some binder
  pub outside : has_name x f.xs ≡ false
  pub used : used_inside binder.ident.at f.after ≡ true
  pub mutated : i.info.mutated ≡ is_set_in binder.ident.at f.after

pub held-taken : {f : Frame} {x : ℕ} {i : ListEntry} → Taken f.after f.xs f.sc i → name_of i ≡ x → Held f x i
held-taken {f} {x} t e =
    let name : t.binder.ident.name ≡ x = ap (λ (y : Ident). y.name) (sym t.is) ∙ e in
    record {
      binder = t.binder;
      found = ap (find f.sc) (sym name) ∙ t.found;
      outside = ap (λ (y : ℕ). has_name y f.xs) (sym name) ∙ t.outside;
      used = t.used;
      mutated = t.mutated;
    }

held_is : {f : Frame} {x : ℕ} {i : ListEntry} → Held f x i → held_set (Some f) x ≡ i.info.mutated
held_is h = rw (h.outside, h.found, h.used) (sym h.mutated)

module _ (C : List ListEntry) (G : ℕ → List Use) where
  -- a name that is not in the list is not held
  not-held : (f : Frame) (p : Place) (x : ℕ) → Framed C G f p → ((q : ℕ) → f.lo ≤ q → q < f.hi → ¬ (name_of (get_or C q no_list_entry) ≡ x))
      → held_set (Some f) x ≡ false
  not-held f p x w n = go (has_name x f.xs) refl
    where
      by : (o : Option Binder) → find f.sc x ≡ o → has_name x f.xs ≡ false → held_of f o ≡ false
      by None e h = refl
      by (Some b) e h = used (used_inside b.ident.at f.after) refl
        where
          used : (u : Bool) → used_inside b.ident.at f.after ≡ u → (u && is_set_in b.ident.at f.after) ≡ false
          used true q =
              let t = w.list.times x b h e q in
              let z = count_none C x f.lo w.list.long (λ k a c. n k a (omega (arith, w.list.to))) in
              absurd (omega (arith, times-some x f.sc e))
          used false q = refl

      go : (h : Bool) → has_name x f.xs ≡ h → cond h false (held_of f (find f.sc x)) ≡ false
      go true h = refl
      go false h = by (find f.sc x) refl h

  -- at the place p, in the state s, the newest captures being `top`
  near-held : (fr : Option Frame) (d : ℕ) (old : Lives) (p : Place) (s : State) → FramedIn C G fr p → (m : Catch C fr d old s) → (x : ℕ)
      → is_unread (near (with_captures (push_layer s.captures) s) x) ≡ held_set fr x
  near-held fr d old p s w m x =
      ap (λ (l : Lives). is_unread (near_in s₀ (get_in l x))) m.live ∙ ap (λ (o : Option (Live Capture)). is_unread (near_in s₀ o)) (get-append m.top old x) ∙
      go fr w (m.caught x) m.mutated m.offsets (get_in m.top x) refl
    where
      s₀ : State
      s₀ = with_captures (push_layer s.captures) s

      -- older captures are too far
      far : (o : Option (Live Capture)) → get_in old x ≡ o → is_unread (near_in s₀ o) ≡ false
      far None e = refl
      far (Some c) e = cases (leb (suc s.captures.depth - c.layer) 1) refl
        where
          cases : (b : Bool) → leb (suc s.captures.depth - c.layer) 1 ≡ b → is_unread (cond b (Some (info_at s c.value.row)) None) ≡ false
          cases true q = absurd (omega (arith, leb-true (suc s.captures.depth - c.layer) 1 q, old_layer old m.below x c e, m.depth))
          cases false q = refl

      go : (gr : Option Frame) → FramedIn C G gr p → CaughtIn C gr x (get_in m.top x) → MutatedIn C gr s.facts.captured
          → OffsetsIn gr m.top s.facts.captured
          → (o : Option (Live Capture)) → get_in m.top x ≡ o → is_unread (near_in s₀ (or_else (get_in m.top x) (get_in old x))) ≡ held_set gr x
      go None v k mu os o e = ap (λ (z : Option (Live Capture)). is_unread (near_in s₀ (or_else z (get_in old x)))) k ∙ far (get_in old x) refl
      go (Some f) v k mu os None e =
          ap (λ (z : Option (Live Capture)). is_unread (near_in s₀ (or_else z (get_in old x)))) e ∙ far (get_in old x) refl ∙ sym
          (absent (subst (CaughtOf C f.lo f.hi x) e k))
        where
          absent : CaughtOf C f.lo f.hi x None → held_set (Some f) x ≡ false
          absent (none_of n) = not-held f p x v n
      go (Some f) v k mu os (Some c) e =
          let deep : suc s.captures.depth - c.layer ≡ 1 = omega (arith, get_layer m.top m.layer x c e, m.depth, m.one) in
          ap (λ (z : Option (Live Capture)). is_unread (near_in s₀ (or_else z (get_in old x)))) e ∙ rw deep
          ((os x c e).unread ∙ present (subst (CaughtOf C f.lo f.hi x) e k))
        where
          present : CaughtOf C f.lo f.hi x (Some c) → (info_at s c.value.row).mutated ≡ held_set (Some f) x
          present (one_of l h n b) = mu c.value.row l h ∙ sym (held_is (held-taken {f = f} (v.list.taken c.value.row l h) n))

-- The captures of a lambda that is entered
module _ (S : Script) {own : ℕ → Type 0} {bottom : List (Live Ident)} {function : Option Node} {fr : Option Frame} {d : ℕ} {old : Lives} {p : Place}
    {s : State} (n : Node) (xs : List Ident)
    (lo hi : ℕ) (after : List Use) (kept : LambdaKept S.T S.C S.A lo hi after n xs p.scope) (f : Again S own bottom function fr d old p s)
    (w : FramedIn S.C S.G fr p)
    (above : Above hi fr) (pending : Pending S.C lo hi s) where
  abbrev pushed : State
  pushed = with_captures (push_layer s.captures) s

  abbrev frame : Frame
  frame = frame_of fr n lo hi xs p.scope after

  -- what is near lies in the list of the lambda around
  apart : (x : ℕ) (c : Live Capture) → get_in s.captures.live x ≡ Some c → leb (suc d - c.layer) 1 ≡ true → Off lo hi c.value.row
  apart x c e h = go fr above (f.captures.caught x) (ap (λ (l : Lives). get_in l x) f.captures.live ∙ get-append f.captures.top old x)
    where
      m : Catch S.C fr d old s
      m = f.captures

      go : (gr : Option Frame) → Above hi gr → CaughtIn S.C gr x (get_in m.top x) → get_in s.captures.live x ≡ or_else (get_in m.top x) (get_in old x)
          → Off lo hi c.value.row
      go None a k z = absurd (omega (
        arith,
        leb-true (suc d - c.layer) 1 h,
        old_layer old m.below x c
            (sym (z ∙ ap (λ (o : Option (Live Capture)). or_else o (get_in old x)) k) ∙ e),
      ))
      go (Some g) a k z = inside (get_in m.top x) refl k
        where
          inside : (o : Option (Live Capture)) → get_in m.top x ≡ o → CaughtOf S.C g.lo g.hi x o → Off lo hi c.value.row
          inside None q t = absurd (omega (
            arith,
            leb-true (suc d - c.layer) 1 h,
            old_layer old m.below x c
                (sym (z ∙ ap (λ (o : Option (Live Capture)). or_else o (get_in old x)) q) ∙ e),
          ))
          inside (Some b) q (one_of l u v y) =
              let same = ap (λ (k : Live Capture). k.value.row) (same_Some b c
              (sym (z ∙ ap (λ (o : Option (Live Capture)). or_else o (get_in old x)) q) ∙ e)) in
              λ i j. omega arith

  -- the capture of x is of the entry at a row
  module _ (t : State) (x row : ℕ) (l : lo ≤ row) (h : row < hi) (name : name_of (get_or S.C row no_list_entry) ≡ x) (g : Flagged lo hi pushed t x row) where
    held : Held frame x (get_or S.C row no_list_entry)
    held = held-taken (kept.taken row l h) name

    abbrev is_set : Bool
    is_set = is_set_in held.binder.ident.at after

    was : (list_entry_at pushed row).info.mutated ≡ is_set
    was = ap (λ (i : ListEntry). i.info.mutated) (pending.at row l h) ∙ held.mutated

    -- all entries of the name are as mutated
    alike : (q : ℕ) → lo ≤ q → q < hi → name_of (get_or S.C q no_list_entry) ≡ x → (list_entry_at pushed q).info.mutated ≡ is_set
    alike q a b e =
        let k = held-taken {f = frame} (kept.taken q a b) e in
        ap (λ (i : ListEntry). i.info.mutated) (pending.at q a b) ∙ k.mutated
        ∙ ap (λ (c : Binder). is_set_in c.ident.at after) (same_Some k.binder held.binder (sym k.found ∙ held.found))

    times : count_from S.C x lo kept.info.captured_vars.length ≡ times_in x p.scope
    times = kept.times x held.binder held.outside held.found held.used

    named : (q : ℕ) → lo ≤ q → q < hi → name_of (list_entry_at pushed q) ≡ x → name_of (get_or S.C q no_list_entry) ≡ x
    named q a b e = ap name_of (sym (pending.at q a b)) ∙ e

    flag_of : is_set ≡ false → Flag lo hi pushed t x row → eqb (info_at t row).capture_offset NONE ≡ (eqb (times_in x p.scope) 1 && held_set fr x)
    flag_of z (once only e) =
        let one = one-row S.C x lo kept.info.captured_vars.length row l (omega (arith, kept.to)) name
        (λ q a b k. only q a (omega (arith, kept.to)) (ap not (alike q a (omega (arith, kept.to)) k ∙ z))
        (ap name_of (pending.at q a (omega (arith, kept.to))) ∙ k)) in
        e ∙ near-held S.C S.G fr d old p s w f.captures x ∙ rw (eq-eqb (times_in x p.scope) 1 (sym times ∙ one))
    flag_of z (twice q a b c m k e) =
        let two : 2 ≤ count_from S.C x lo kept.info.captured_vars.length = both (ltb_dec q row) in
        e ∙ rw (ne_eqb (times_in x p.scope) 1 (λ v. omega (arith, times)))
      where
        ltb_dec : (i j : ℕ) → Dec (i < j)
        ltb_dec i j = dec_lt i j

        both : Dec (q < row) → 2 ≤ count_from S.C x lo kept.info.captured_vars.length
        both (yes y) = two_rows S.C x lo kept.info.captured_vars.length q row a y (omega (arith, kept.to)) (named q a b k) name
        both (no y) = two_rows S.C x lo kept.info.captured_vars.length row q l (omega arith) (omega (arith, kept.to)) name (named q a b k)

    refuses_is : frame.refuses x ≡ (not is_set && (eqb (times_in x p.scope) 1 && held_set fr x))
    refuses_is = ap (refuses_binder fr p.scope after x) held.found

    offsets_at : Same (list_entry_at pushed row) (list_entry_at t row) → OffsetsAt frame x (info_at t row)
    offsets_at same = go is_set refl
      where
        go : (z : Bool) → is_set ≡ z → OffsetsAt frame x (info_at t row)
        go true z =
            let none_read : (info_at t row).read_capture_offset ≡ NONE =
            g.mutated (was ∙ z) ∙ ap (λ (i : ListEntry). i.info.read_capture_offset) (pending.at row l h) ∙ (kept.taken row l h).unread in
            record {
              refused = rw none_read (sym (refuses_is ∙ rw z));
              unread = rw none_read (sym (same.mutated ∙ was ∙ z));
            }
        go false z =
            let number = no_number (info_at t row).read_capture_offset (g.read (was ∙ z)) in
            record {
              refused = rw number (flag_of z (g.flag (was ∙ z)) ∙ sym (refuses_is ∙ rw z));
              unread = number ∙ sym (same.mutated ∙ was ∙ z);
            }

  pub new_offsets : (t : State) → t ≡ number_list kept.info.captured_vars pushed → (top : Lives) → t.captures.live ≡ top ++ s.captures.live
      → InLayer (suc d) top
      → ((q : ℕ) → Same (list_entry_at pushed q) (list_entry_at t q)) → ((x : ℕ) → CaughtOf S.C lo hi x (get_in top x)) → OffsetsIn (Some frame) top t.facts.captured
  new_offsets t is top live layer list_entries caught x c e = go (subst (CaughtOf S.C lo hi x) e (caught x))
    where
      go : CaughtOf S.C lo hi x (Some c) → OffsetsAt frame x (info_at t c.value.row)
      go (one_of l h name b) =
          let v = kept.info.captured_vars in
          let m = f.captures in
          let below = subst (Below (suc d)) (sym m.live) (below_all_lem d m.top old m.layer m.below) in
          let ends : v.first + v.length ≡ hi = ap (λ (k : ℕ). k + v.length) kept.from ∙ kept.to in
          let found : get_in (number_list v pushed).captures.live x ≡ Some c =
          ap (λ (u : State). get_in u.captures.live x) (sym is) ∙ ap (λ (k : Lives). get_in k x) live ∙ get-append top s.captures.live x ∙ ap
          (λ (o : Option (Live Capture)). or_else o (get_in s.captures.live x)) e in
          let flagged = flagged-list v (suc d) s.captures.live pushed (ap suc m.depth) refl below
          (λ y b q r i j. apart y b q r (omega (arith, kept.from)) (omega arith))
          (omega (arith, f.tables.long, kept.few)) (omega (arith, kept.few)) x c found (get_layer top layer x c e) in
          let there : Flagged lo hi pushed t x c.value.row =
          subst (λ (u : State). Flagged lo hi pushed u x c.value.row) (sym is)
          (subst (λ (k : ℕ). Flagged lo k pushed (number_list v pushed) x c.value.row) kept.to
          (subst (λ (k : ℕ). Flagged k (k + v.length) pushed (number_list v pushed) x c.value.row) kept.from flagged)) in
          offsets_at t x c.value.row l h name there (list_entries c.value.row)
