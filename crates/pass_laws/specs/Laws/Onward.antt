-- What a step leaves to the rest of a fresh visit.
use Rattle.std.specs.Prelude.{ℕ, ◌≤◌, ◌<◌, List, [], ◌∷◌, ◌++◌, Bool, false, ◌&&◌, ◌||◌, ◌≡◌, length, get_or, set, eqb}
use Rattle.std.proofs.Math.Bool.{or-false, and-true, and-false}
use Rattle.std.proofs.Common.{ap, sym, subst, ◌∙◌, arith, eq-eqb, ne_eqb, get_or-set_same, get_or-set_other}
use Rattle.std.proofs.Math.Decide.{ℕ_discrete, dec_lt}
use Rattle.std.proofs.Math.ListN.{get_or-eq_default}
use Rattle.tree.specs.Tree.{Ident}
use Rattle.tree.specs.Accepted.{All}
use Rattle.scope_map.specs.ScopeMap.{ScopeMap, Live}
use Rattle.r7rs.specs.Binding.{Binder, Place, Use}
use Rattle.pass.specs.State.{Entry, Capture, Scope, State, no_entry, row_at}
use Rattle.pass_laws.specs.Laws.Rows.{key, key-blank}
use Rattle.pass_laws.specs.Laws.Changes.{lasting_entry, Steps, same as no_step, quiet}
use Rattle.pass_laws.specs.Laws.Moves.{Moves, by, moves_key, moves_lengths}
use Rattle.pass_laws.specs.Laws.Entries.{moves_entry}
use Rattle.pass_laws.specs.Laws.Leaves.{names}
use Rattle.pass_laws.specs.Laws.Says.{any_append, used_inside, is_set_in}
use Rattle.pass_laws.specs.Laws.Finds.{entry_in, Held, Stands, Unused, Untouched, Finds, all_map}

-- of the records in `own`, those in `out` may be written and those in `left` are left
pub record Parts (own out left : ℕ → Type 0) : Type 0 where
  pub written : (x : ℕ) → out x → own x
  pub kept : (x : ℕ) → left x → own x
  pub apart : (x : ℕ) → left x → out x → ⊥

module _ {own out left : ℕ → Type 0} (parts : Parts own out left) {bottom : List (Live Ident)} {s t : State} where
  pub untouched : Untouched own bottom s → Moves out s t → Untouched left bottom t
  untouched u c =
      let lengths = moves_lengths c in
      record {
        rows = λ x o. omega (arith, lengths.rows, u.rows x (parts.kept x o));
        entries = λ x o. omega (arith, lengths.entries, u.entries x (parts.kept x o));
        blank = λ x o. key-blank (row_at t x) (moves_key c x (parts.apart x o) ∙ ap key (u.blank x (parts.kept x o)));
        globals = all_map (λ e g.
            record {
              layer = g.layer;
              depth = ap (λ (k : Entry). k.depth) (moves_entry c e.value.at (λ o. g.apart (parts.written e.value.at o))).kept ∙ g.depth;
              apart = λ o. g.apart (parts.kept e.value.at o);
            }) bottom u.globals;
      }

  module _ {before : List Use} {p : Place} (f : Finds own bottom before p s) where
    pub onward : (after : List Use) → Moves out s t → names t ≡ names s → t.captures.live ≡ [] → ((x : ℕ) → left x → Unused after x)
        → All (Stands left t.scope.entries after) p.scope → Finds left bottom after p t
    onward after c n m u h =
        record { tables = untouched f.tables c; unused = u; captures = m; one = f.one; live = n ∙ f.live; around = f.around; stands = h }

    -- a quiet step
    pub calmly : ((free : Type 0) → Steps free out s t) → Finds left bottom before p t
    calmly c =
        let q = quiet (c ⊥) in
        onward before (by (c (Unit {0}))) (ap (λ (k : Scope). k.names) q.scope) (ap (λ (m : ScopeMap Capture). m.live) q.captures ∙ f.captures)
        (λ x o. f.unused x (parts.kept x o))
        (subst (λ (k : Scope). All (Stands left k.entries before) p.scope) (sym q.scope)
        (all_map (λ b k. record { held = k.held; apart = λ o. k.apart (parts.kept b.ident.at o) }) p.scope f.stands))

-- nothing but fewer records
pub fewer : {own left : ℕ → Type 0} {bottom : List (Live Ident)} {before : List Use} {p : Place} {s : State} → ((x : ℕ) → left x → own x)
    → Finds own bottom before p s → Finds left bottom before p s
fewer w f = calmly (record { written = λ x (o : ⊥). absurd o; kept = w; apart = λ x l o. o }) f (λ free. no_step)

-- An entry is used: which of the flags that the uses before tell change

-- after a use of the name bound at the record i, by an inner lambda, a set!
pub record UsedAt (i : ℕ) (inner assigned : Bool) (before after : List Use) : Type 0 where
  pub captured : (c : ℕ) → used_inside c after ≡ used_inside c before || (inner && eqb i c)
  pub mutated : (c : ℕ) → is_set_in c after ≡ is_set_in c before || (assigned && eqb i c)

-- one use more
pub one_use : (before : List Use) (u : Use) → UsedAt u.binder u.is_inner u.is_set before (before ++ u ∷ [])
one_use before u =
    record {
      captured = λ c. any_append _ before (u ∷ []) ∙ ap (λ (b : Bool). used_inside c before || b) (or-false (u.is_inner && eqb u.binder c));
      mutated = λ c. any_append _ before (u ∷ []) ∙ ap (λ (b : Bool). is_set_in c before || b) (or-false (u.is_set && eqb u.binder c));
    }

-- none
pub no_use : (i : ℕ) (before : List Use) → UsedAt i false false before before
no_use i before = record { captured = λ c. sym (or-false (used_inside c before)); mutated = λ c. sym (or-false (is_set_in c before)) }

-- an entry that a use leaves
pub record UsedAs (inner assigned : Bool) (d e : Entry) : Type 0 where
  pub captured : e.captured ≡ d.captured || inner
  pub mutated : e.mutated ≡ d.mutated || assigned
  pub kept : lasting_entry e ≡ lasting_entry d

-- the flags are the same
pub same_flags : {E : List Entry} {before after : List Use} {b : Binder} → used_inside b.ident.at before ≡ used_inside b.ident.at after
    → is_set_in b.ident.at before ≡ is_set_in b.ident.at after → Held E before b → Held E after b
same_flags c m h = record { depth = h.depth; slot = h.slot; captured = h.captured ∙ c; mutated = h.mutated ∙ m }

-- another entry
pub other_held : {E : List Entry} {before : List Use} {b : Binder} (i : ℕ) (e : Entry) → ¬ (b.ident.at ≡ i) → Held E before b → Held (set E i e) before b
other_held {E} {b = b} i e n h =
    let same = get_or-set_other E i b.ident.at e no_entry n in
    record {
      depth = ap (λ (k : Entry). k.depth) same ∙ h.depth;
      slot = ap (λ (k : Entry). k.stack_offset) same ∙ h.slot;
      captured = ap (λ (k : Entry). k.captured) same ∙ h.captured;
      mutated = ap (λ (k : Entry). k.mutated) same ∙ h.mutated;
    }

-- the entry of a name above the bottom is there
held_in : {E : List Entry} {before : List Use} {b : Binder} → 2 ≤ b.home.layer → Held E before b → b.ident.at < length E
held_in {E} {b = b} two h = go (dec_lt b.ident.at (length E))
  where
    go : Dec (b.ident.at < length E) → b.ident.at < length E
    go (yes l) = l
    go (no l) = absurd (omega (arith, h.depth, ap (λ (k : Entry). k.depth) (get_or-eq_default E no_entry {n = b.ident.at} (omega arith))))

module _ {i : ℕ} {inner assigned : Bool} {before after : List Use} (u : UsedAt i inner assigned before after) where
  -- the flags of another name, and of this one

  flag_other : (f a : Bool) {c : ℕ} → ¬ (c ≡ i) → f || (a && eqb i c) ≡ f
  flag_other f a {c} h = rw (ne_eqb i c (λ q. h (sym q)), and-false a, or-false f)

  flag_same : (f a : Bool) {c : ℕ} → c ≡ i → f || (a && eqb i c) ≡ f || a
  flag_same f a {c} h = rw (eq-eqb i c (sym h), and-true a)

  captured_other : {c : ℕ} → ¬ (c ≡ i) → used_inside c before ≡ used_inside c after
  captured_other {c} h = sym (u.captured c ∙ flag_other (used_inside c before) inner h)

  mutated_other : {c : ℕ} → ¬ (c ≡ i) → is_set_in c before ≡ is_set_in c after
  mutated_other {c} h = sym (u.mutated c ∙ flag_other (is_set_in c before) assigned h)

  captured_same : {c : ℕ} → c ≡ i → used_inside c before || inner ≡ used_inside c after
  captured_same {c} h = sym (u.captured c ∙ flag_same (used_inside c before) inner h)

  mutated_same : {c : ℕ} → c ≡ i → is_set_in c before || assigned ≡ is_set_in c after
  mutated_same {c} h = sym (u.mutated c ∙ flag_same (is_set_in c before) assigned h)

  pub still_unused : {x : ℕ} → ¬ (x ≡ i) → Unused before x → Unused after x
  still_unused n v = record { captured = sym (captured_other n) ∙ v.captured; mutated = sym (mutated_other n) ∙ v.mutated }

  pub use_held : (E : List Entry) (e : Entry) → UsedAs inner assigned (entry_in E i) e → (b : Binder) → 2 ≤ b.home.layer → Held E before b
      → Held (set E i e) after b
  use_held E e q b two h = go (ℕ_discrete b.ident.at i)
    where
      go : Dec (b.ident.at ≡ i) → Held (set E i e) after b
      go (no n) = same_flags (captured_other n) (mutated_other n) (other_held i e n h)
      go (yes n) =
          let here : entry_in (set E i e) b.ident.at ≡ e = ap (λ (k : ℕ). get_or (set E i e) k no_entry) n ∙ get_or-set_same E i e no_entry (omega (arith, held_in two h)) in
          let was : entry_in E i ≡ entry_in E b.ident.at = ap (λ (k : ℕ). get_or E k no_entry) (sym n) in
          record {
            depth = ap (λ (k : Entry). k.depth) here ∙ ap (λ (k : Entry). k.depth) q.kept ∙ ap (λ (k : Entry). k.depth) was ∙ h.depth;
            slot = ap (λ (k : Entry). k.stack_offset) here ∙ ap (λ (k : Entry). k.stack_offset) q.kept ∙ ap (λ (k : Entry). k.stack_offset) was ∙ h.slot;
            captured = ap (λ (k : Entry). k.captured) here ∙ q.captured ∙ ap (λ (k : Entry). k.captured || inner) was ∙ ap (λ (f : Bool). f || inner) h.captured
                ∙ captured_same n;
            mutated = ap (λ (k : Entry). k.mutated) here ∙ q.mutated ∙ ap (λ (k : Entry). k.mutated || assigned) was ∙ ap (λ (f : Bool). f || assigned) h.mutated
                ∙ mutated_same n;
          }
