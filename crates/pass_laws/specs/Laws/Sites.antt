-- A call's fact stands at the record of a call alone, whose head is no constant.
use Rattle.std.specs.Prelude.{ℕ, ◌<◌, List, [], ◌∷◌, ◌++◌, Bool, true, false, ◌≡◌, refl, length, get_or}
use Rattle.std.proofs.Math.Bool.{or-true}
use Rattle.std.proofs.Common.{ap, sym, ◌∙◌, arith, eq-eqb}
use Rattle.std.proofs.Math.Decide.{ℕ_discrete, dec_lt}
use Rattle.tree.specs.Tree.{Tree, Trees, ident, const, if, letin, define, lambda, sequence, call, set!, nil, cons, begins, ands, whens}
use Rattle.tree.specs.Accepted.{All}
use Rattle.semantic.specs.Rows.{Row, Blank, Variable, Function, CallSite, Let}
use Rattle.r7rs.specs.Tail.{Call, calls, calls_in, calls_last, calls_tested, has_fact}
use Rattle.pass.specs.State.{State, insert, amend, put_entry, row_at}
use Rattle.pass.specs.Lambda.{open_scope, close_scope}
use Rattle.semantic.specs.Kinds.{is_call_site}
use Rattle.tree.specs.Core.{is_constant}
use Rattle.pass_laws.specs.Laws.All.{all_left, all_right}
use Rattle.pass_laws.specs.Laws.Rows.{key, key-amended, row_same, row_other, row_out}
use Rattle.pass_laws.specs.Laws.Changes.{CallSteps, same, ◌⨾◌, row, site, mark, entry, used, names, layer, lists, captures, context, note}
use Rattle.pass_laws.specs.Laws.Scopes.{Any, names-any}
use Rattle.pass_laws.specs.Laws.Visits.{Writes, WritesAll}

-- No step makes one elsewhere

site_key : (r : Row) → is_call_site (key r) ≡ is_call_site r
site_key Blank = refl
site_key (Variable v) = refl
site_key (Function v) = refl
site_key (CallSite v) = refl
site_key (Let v) = refl

key_site : (r q : Row) → key r ≡ key q → is_call_site q ≡ false → is_call_site r ≡ false
key_site r q e h = sym (site_key r) ∙ ap is_call_site e ∙ site_key q ∙ h

row_sites : (i : ℕ) (r : Row) (s : State) → (is_call_site (row_at s i) ≡ false → is_call_site r ≡ false) → (x : ℕ) → is_call_site (row_at s x) ≡ false → is_call_site (row_at (insert i r s) x) ≡ false
row_sites i r s p x h = go (ℕ_discrete x i) (dec_lt i (length s.facts.rows))
  where
    go : Dec (x ≡ i) → Dec (i < length s.facts.rows) → is_call_site (row_at (insert i r s) x) ≡ false
    go (no d) l = ap is_call_site (row_other i r s x d) ∙ h
    go (yes d) (yes l) = rw d (ap is_call_site (row_same i r s l) ∙ p (rw d at h))
    go (yes d) (no l) = ap is_call_site (row_out i r s x (omega arith)) ∙ h

pub keeps_sites : {free : Type 0} {own sites : ℕ → Type 0} {s t : State} → CallSteps free own sites s t → (x : ℕ) → (sites x → ⊥)
    → is_call_site (row_at s x) ≡ false → is_call_site (row_at t x) ≡ false
unfolding put_entry open_scope close_scope
keeps_sites same x o h = h
keeps_sites (c ⨾ d) x o h = keeps_sites d x o (keeps_sites c x o h)
keeps_sites (row {s} i r w p) x o h = row_sites i r s p x h
keeps_sites (site {s} i v w) x o h = ap is_call_site (row_other i (CallSite v) s x (λ e. o (rw e w))) ∙ h
keeps_sites (mark {s} f i m) x o h = key_site (row_at (amend f i s) x) (row_at s x) (key-amended f m i s x) h
keeps_sites (entry n i e w) x o h = h
keeps_sites (used n i e u) x o h = h
keeps_sites (names n m e) x o h = h
keeps_sites (layer n c) x o h = keeps_sites c x o h
keeps_sites (lists f l) x o h = ap (λ (r : List Row). is_call_site (get_or r x Blank)) l.rows ∙ h
keeps_sites (captures n m) x o h = h
keeps_sites (context c) x o h = h
keeps_sites (note n l) x o h = h

-- A tree writes such facts at its calls

module _ (sites : ℕ → Type 0) where
  abbrev pub Sited : Call → Type 0
  Sited c = is_constant c.head ≡ false → sites c.at

  mutual
    unfolding Writes calls

    tree_sites : (t : Tree) (b : Bool) → All Sited (calls t b) → Writes Any sites t
    tree_sites (ident x) b a = tt
    tree_sites (const n q) b a = tt
    tree_sites (if n t u v) b a =
        let r = all_right Sited (calls t false) (calls u b ++ calls v b) a in (
          tree_sites t false (all_left Sited (calls t false) (calls u b ++ calls v b) a),
          tree_sites u b (all_left Sited (calls u b) (calls v b) r),
          tree_sites v b (all_right Sited (calls u b) (calls v b) r),
        )
    tree_sites (letin n xs es t) b a =
        (tt, names-any xs, trees_sites es (all_left Sited (calls_in es) (calls t b) a), tree_sites t b (all_right Sited (calls_in es) (calls t b) a))
    tree_sites (define n x t) b a = (tt, tree_sites t false a)
    tree_sites (lambda n xs t) b a = (tt, names-any xs, tree_sites t true a)
    tree_sites (sequence (begins n) es) b a = last_sites es b a
    tree_sites (sequence (ands n) es) b a = last_sites es b a
    tree_sites (sequence (whens q n) es) b a = tested_sites es b a
    tree_sites (call n h es) b a =
        (a.0, tree_sites h false (all_left Sited (calls h false) (calls_in es) a.1), trees_sites es (all_right Sited (calls h false) (calls_in es) a.1))
    tree_sites (set! n x t) b a = (tt, tree_sites t false a)

    pub trees_sites : (ts : Trees) → All Sited (calls_in ts) → WritesAll Any sites ts
    trees_sites nil a = tt
    trees_sites (cons t ts) a =
        (tree_sites t false (all_left Sited (calls t false) (calls_in ts) a), trees_sites ts (all_right Sited (calls t false) (calls_in ts) a))

    last_sites : (ts : Trees) (b : Bool) → All Sited (calls_last ts b) → WritesAll Any sites ts
    last_sites nil b a = tt
    last_sites (cons t nil) b a = (tree_sites t b a, tt)
    last_sites (cons t (cons u us)) b a =
        (tree_sites t false (all_left Sited (calls t false) (calls_last (cons u us) b) a), last_sites (cons u us) b (all_right Sited (calls t false) (calls_last (cons u us) b) a))

    tested_sites : (ts : Trees) (b : Bool) → All Sited (calls_tested ts b) → WritesAll Any sites ts
    tested_sites nil b a = tt
    tested_sites (cons t ts) b a =
        (tree_sites t false (all_left Sited (calls t false) (calls_last ts b) a), last_sites ts b (all_right Sited (calls t false) (calls_last ts b) a))

-- and each of those is the record of one

abbrev pub Site : List Call → ℕ → Type 0
Site l i = has_fact i l ≡ true

here : (c : Call) (l : List Call) → is_constant c.head ≡ false → Site (c ∷ l) c.at
unfolding has_fact
here c l e = rw (eq-eqb c.at c.at refl, e)

there : (c : Call) (l : List Call) (x : ℕ) → Site l x → Site (c ∷ l) x
unfolding has_fact
there c l x h = rw (h, or-true)

pub all_sited : (l : List Call) → All (Sited (Site l)) l
all_sited l = among l (λ x h. h)
  where
    among : (m : List Call) → ((x : ℕ) → Site m x → Site l x) → All (Sited (Site l)) m
    among [] f = tt
    among (c ∷ m) f = (λ e. f c.at (here c m e), among m (λ x h. f x (there c m x h)))
