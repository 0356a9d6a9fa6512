-- The bottom layer that each tree at top level is visited with holds the bottom entries of R7RS's side: the last value define before, else the
-- last lambda define.
use Rattle.std.specs.Prelude.{ℕ, ◌+◌, ◌≤◌, ◌<◌, Bool, not, ◌&&◌, ◌||◌, ◌≡◌, Option, None, Some}
use mathlib.Core.List.{List, [], ◌∷◌, ◌++◌}
use Rattle.std.proofs.Math.Bool.{true, false, cond, and-true, and-false}
use Rattle.std.proofs.Common.{true≢false, sym, subst, ◌∙◌, arith, eqb-true, eq-eqb, lt-ltb, le-ltb}
use Rattle.std.proofs.Math.Path.{refl, ap}
use Rattle.std.proofs.lemmas.Bool.{eqb-false}
use Rattle.std.proofs.Math.Dec.{eqb}
use Rattle.tree.specs.Tree.{Ident, Tree, Trees, ident, const, if, letin, define, lambda, sequence, call, set!, nil, cons, size, sizes, Num, Nums}
use Rattle.tree.specs.Define.{top_level, inner_defines}
use Rattle.tree.specs.Accepted.{All}
use Rattle.scope_map.specs.ScopeMap.{Live, has_in, replace_in, get_in}
use Rattle.semantic.specs.Rows.{Row}
use Rattle.r7rs.specs.Binding.{Mention, Use, top, walk, walk_all, events}
use Rattle.r7rs.specs.Bottom.{Define, define_of, defines_of, last_or, is_lambda_of, is_value_of, bottom_entry}
use Rattle.pass.specs.State.{binder_in}
use Rattle.pass.specs.Run.{rows_most, fresh}
use Rattle.pass_laws.specs.Laws.Layers.{live_at}
use Rattle.pass_laws.specs.Spread.{Spread}
use Rattle.pass_laws.specs.Laws.Tops.{spread_top}
use Rattle.pass_laws.specs.Laws.Globals.{defined_in, all-defined, lambdas_in, values_in, entered_all, define-at}
use Rattle.pass_laws.specs.Laws.All.{all-++, all_map}
use Rattle.pass_laws.specs.Laws.Levels.{each_map, each_mention, level, placed}
use Rattle.pass_laws.specs.Laws.Says.{Each, cell_of, Says, says_append, says_cell}
use Rattle.pass_laws.specs.Laws.Presumed.{any_uses}
use Rattle.pass_laws.specs.Laws.Script.{bottom_for, SaysTops, fresh_script, walk_top}

-- the newest define of a name
abbrev pub newest_in : List (Live Ident) → ℕ → Option Ident
newest_in l x = binder_in (get_in l x)

abbrev pub AtBottom : Live Ident → Type 0
AtBottom e = e.layer ≡ 1

-- A name is defined

get-cons : (e : Live Ident) (l : List (Live Ident)) (x : ℕ) → newest_in (e ∷ l) x ≡ cond (eqb e.name x) (Some e.value) (newest_in l x)
unfolding get_in
get-cons e l x = go (eqb e.name x)
  where
    go : (b : Bool) → binder_in (cond b (Some e) (get_in l x)) ≡ cond b (Some e.value) (newest_in l x)
    go true = refl
    go false = refl

-- tests that are not both true may change places
cond_swap : {A : Type 0} (p q : Bool) (a b c : A) → (p ≡ true → q ≡ true → ⊥) → cond p a (cond q b c) ≡ cond q b (cond p a c)
cond_swap true true a b c h = absurd (h refl refl)
cond_swap true false a b c h = refl
cond_swap false q a b c h = refl

cond_else : {A : Type 0} (p : Bool) (a : A) {b c : A} → (p ≡ false → b ≡ c) → cond p a b ≡ cond p a c
cond_else true a h = refl
cond_else false a h = h refl

module _ (d : Ident) (x : ℕ) where
  -- the entry e of the name d, and of another name

  same_name : (e : Live Ident) (l : List (Live Ident)) → e.name ≡ d.name → newest_in (live_at 1 d ∷ l) x ≡ cond (eqb d.name x) (Some d) (newest_in (e ∷ l) x)
  same_name e l q = get-cons (live_at 1 d) l x ∙ cond_else (eqb d.name x) (Some d) (λ n. sym (get-cons e l x ∙ rw (q, n)))

  other_name : (e : Live Ident) (l m : List (Live Ident)) → ¬ (e.name ≡ d.name) → newest_in m x ≡ cond (eqb d.name x) (Some d) (newest_in l x)
      → newest_in (e ∷ m) x ≡ cond (eqb d.name x) (Some d) (newest_in (e ∷ l) x)
  other_name e l m q r =
      get-cons e m x ∙ ap (cond (eqb e.name x) (Some e.value)) r
      ∙ cond_swap (eqb e.name x) (eqb d.name x) _ _ _ (λ u v. q (eqb-true e.name x u ∙ sym (eqb-true d.name x v)))
      ∙ ap (cond (eqb d.name x) (Some d)) (sym (get-cons e l x))

  get-replaced : (l : List (Live Ident)) → All AtBottom l → has_in 1 d.name l ≡ true
      → newest_in (replace_in 1 d.name d l) x ≡ cond (eqb d.name x) (Some d) (newest_in l x)
  unfolding has_in replace_in
  get-replaced [] a h = absurd (true≢false (sym h))
  get-replaced (e ∷ l) a h = go (eqb e.name d.name) refl (rw (eq-eqb e.layer 1 a.0) at h) (λ g. get-replaced l a.1 g)
    where
      go : (b : Bool) → eqb e.name d.name ≡ b → eqb e.name d.name || has_in 1 d.name l ≡ true
          → (has_in 1 d.name l ≡ true → newest_in (replace_in 1 d.name d l) x ≡ cond (eqb d.name x) (Some d) (newest_in l x))
          → newest_in (replace_in 1 d.name d (e ∷ l)) x ≡ cond (eqb d.name x) (Some d) (newest_in (e ∷ l) x)
      go true q g f = rw (eq-eqb e.layer 1 a.0, q) (same_name e l (eqb-true e.name d.name q))
      go false q g f = rw (eq-eqb e.layer 1 a.0, q) (other_name e l _ (eqb-false e.name d.name q) (f (rw q at g)))

  get-defined : (l : List (Live Ident)) → All AtBottom l → newest_in (defined_in d l) x ≡ cond (eqb d.name x) (Some d) (newest_in l x)
  get-defined l a = go (has_in 1 d.name l) refl
    where
      go : (b : Bool) → has_in 1 d.name l ≡ b → newest_in (cond b (replace_in 1 d.name d l) (live_at 1 d ∷ l)) x ≡ cond (eqb d.name x) (Some d)
          (newest_in l x)
      go true q = get-replaced l a q
      go false q = get-cons (live_at 1 d) l x

-- Defines in order

last-append : (o : Option Ident) (p : Define → Bool) (l r : List Define) → last_or o p (l ++ r) ≡ last_or (last_or o p l) p r
unfolding last_or
last-append o p [] r = refl
last-append o p (d ∷ l) r = last-append (cond (p d) (Some d.name) o) p l r

-- a define that enters if q holds
get_if : (q : Bool) (d : Ident) (l : List (Live Ident)) (x : ℕ) → All AtBottom l
    → newest_in (cond q (defined_in d l) l) x ≡ cond (q && eqb d.name x) (Some d) (newest_in l x)
get_if true d l x a = get-defined d x l a
get_if false d l x a = refl

if_bottom : (q : Bool) (d : Ident) (l : List (Live Ident)) → All AtBottom l → All AtBottom (cond q (defined_in d l) l)
if_bottom true d l a = all-defined AtBottom d l refl a
if_bottom false d l a = a

-- the lambda defines enter first

get_lambdas : (ds : List Define) (l : List (Live Ident)) (x : ℕ) → All AtBottom l → newest_in (lambdas_in ds l) x ≡ last_or (newest_in l x) (is_lambda_of x) ds
unfolding last_or
get_lambdas [] l x a = refl
get_lambdas (d ∷ ds) l x a =
    get_lambdas ds _ x (if_bottom d.is_lambda d.name l a) ∙ ap (λ (o : Option Ident). last_or o (is_lambda_of x) ds) (get_if d.is_lambda d.name l x a)

lambdas_bottom : (ds : List Define) (l : List (Live Ident)) → All AtBottom l → All AtBottom (lambdas_in ds l)
lambdas_bottom [] l a = a
lambdas_bottom (d ∷ ds) l a = lambdas_bottom ds _ (if_bottom d.is_lambda d.name l a)

get-entered : (ts : Trees) (l : List (Live Ident)) (x : ℕ) → All AtBottom l → newest_in (entered_all ts l) x ≡ last_or (newest_in l x) (is_lambda_of x) (defines_of ts)
unfolding defines_of last_or
get-entered nil l x a = refl
get-entered (cons t ts) l x a =
    get-entered ts (lambdas_in (define_of t) l) x (lambdas_bottom (define_of t) l a)
    ∙ ap (λ (o : Option Ident). last_or o (is_lambda_of x) (defines_of ts)) (get_lambdas (define_of t) l x a)
    ∙ sym (last-append (newest_in l x) (is_lambda_of x) (define_of t) (defines_of ts))

entered_bottom : (ts : Trees) (l : List (Live Ident)) → All AtBottom l → All AtBottom (entered_all ts l)
entered_bottom nil l a = a
entered_bottom (cons t ts) l a = entered_bottom ts (lambdas_in (define_of t) l) (lambdas_bottom (define_of t) l a)

-- a value define enters before its body

swap_if : (q : Bool) (d : Ident) (l : List (Live Ident)) → cond q l (defined_in d l) ≡ cond (not q) (defined_in d l) l
swap_if true d l = refl
swap_if false d l = refl

value_bottom : (q : Bool) (d : Ident) (l : List (Live Ident)) → All AtBottom l → All AtBottom (cond q l (defined_in d l))
value_bottom q d l a = subst (All AtBottom) (sym (swap_if q d l)) (if_bottom (not q) d l a)

-- for the record r, which stands after the defines ds
get_values : (ds : List Define) (l : List (Live Ident)) (x r : ℕ) → All AtBottom l → All (λ d. d.at < r) ds
    → newest_in (values_in ds l) x ≡ last_or (newest_in l x) (is_value_of x r) ds
unfolding last_or
get_values [] l x r a b = refl
get_values (d ∷ ds) l x r a b =
    let counts : is_value_of x r d ≡ not d.is_lambda && eqb d.name.name x = rw (lt-ltb d.at r b.0, and-true (eqb d.name.name x)) in
    let entered = ap (λ (k : List (Live Ident)). newest_in k x) (swap_if d.is_lambda d.name l) ∙ get_if (not d.is_lambda) d.name l x a in
    get_values ds _ x r (value_bottom d.is_lambda d.name l a) b.1
    ∙ ap (λ (o : Option Ident). last_or o (is_value_of x r) ds) (entered ∙ ap (λ (q : Bool). cond q (Some d.name) (newest_in l x)) (sym counts))

values_bottom : (ds : List Define) (l : List (Live Ident)) → All AtBottom l → All AtBottom (values_in ds l)
values_bottom [] l a = a
values_bottom (d ∷ ds) l a = values_bottom ds _ (value_bottom d.is_lambda d.name l a)

-- no define after the record r counts
last_none : (o : Option Ident) (x r : ℕ) (ds : List Define) → All (λ d. r ≤ d.at) ds → last_or o (is_value_of x r) ds ≡ o
unfolding last_or
last_none o x r [] a = refl
last_none o x r (d ∷ ds) a =
    let counts : is_value_of x r d ≡ false = rw (le-ltb d.at r a.0, and-false (eqb d.name.name x), and-false (not d.is_lambda)) in
    rw counts (last_none o x r ds a.1)

-- Along the top level

defines_after : (i j : ℕ) (ts : Trees) → Spread i j ts → All (λ d. i ≤ d.at) (defines_of ts)
unfolding defines_of
defines_after i j nil p = tt
defines_after i j (cons t ts) p =
    let l = p.1 in
    all-++ _ (define_of t) (defines_of ts) (all_map _ _ (λ d q. omega (arith, q.at)) (define_of t) (define-at p.0 t p.2))
    (all_map _ _ (λ d q. omega arith) (defines_of ts) (defines_after (p.0 + size t) j ts p.3))

-- every mention stands after its tree's own define
record After (t : Tree) (k j : ℕ) (m : Mention) : Type 0 where
  from : k ≤ m.ident.at
  after : All (λ d. d.at < m.ident.at) (define_of t)
  below : m.ident.at < j

no_define : (k : ℕ) (t : Tree) → Num k t → define_of t ≡ [] → Each (After t k (k + size t)) (walk t top)
no_define k t n e =
    each_map _ _ (λ m q. record { from = q.from; after = subst (All (λ d. d.at < m.ident.at)) (sym e) tt; below = q.below }) (walk t top)
    (each_mention _ _ (walk t top) (placed (level t) k t n top tt (λ i l u. omega arith)))

mentions_after : (k : ℕ) (t : Tree) → Num k t → Each (After t k (k + size t)) (walk t top)
unfolding Num size walk
mentions_after k (ident x) n = no_define k (ident x) n refl
mentions_after k (const m q) n = no_define k (const m q) n refl
mentions_after k (if m a b c) n = no_define k (if m a b c) n refl
mentions_after k (letin m xs es b) n = no_define k (letin m xs es b) n refl
mentions_after k (define m x b) n =
    each_map _ _ (λ c q. record { from = omega (arith, q.from); after = (omega (arith, q.from), tt); below = omega (arith, q.below) }) (walk b top)
    (each_mention _ _ (walk b top) (placed (level b) (k + 2) b n.2 top tt (λ i l u. omega arith)))
mentions_after k (lambda m xs b) n = no_define k (lambda m xs b) n refl
mentions_after k (sequence m es) n = no_define k (sequence m es) n refl
mentions_after k (call m h es) n = no_define k (call m h es) n refl
mentions_after k (set! m x e) n = no_define k (set! m x e) n refl

-- the bottom entry of R7RS's side
abbrev pub cell : Trees → Ident → Option Ident
cell ts x = bottom_entry ts x.name x.at

module _ (ts : Trees) where
  -- the trees us are left from the record i on, with the bottom layer l
  abbrev Continues : ℕ → Trees → List (Live Ident) → Type 0
  Continues i us l = (x r : ℕ) → i ≤ r → bottom_entry ts x r ≡ last_or (newest_in l x) (is_value_of x r) (defines_of us)

  -- past the first tree, for a record after its define
  continued : (t : Tree) (us : Trees) (l : List (Live Ident)) (x r : ℕ) → All AtBottom l → All (λ d. d.at < r) (define_of t)
      → bottom_entry ts x r ≡ last_or (newest_in l x) (is_value_of x r) (defines_of (cons t us))
      → bottom_entry ts x r ≡ last_or (newest_in (bottom_for t l) x) (is_value_of x r) (defines_of us)
  unfolding defines_of
  continued t us l x r a b e =
      e ∙ last-append (newest_in l x) (is_value_of x r) (define_of t) (defines_of us)
      ∙ ap (λ (o : Option Ident). last_or o (is_value_of x r) (defines_of us)) (sym (get_values (define_of t) l x r a b))

  -- the cells of the mentions of trees at top level, the first with the bottom layer l
  abbrev pub CellsTops : List (Live Ident) → Trees → Type 0
  CellsTops l nil = Unit {0}
  CellsTops l (cons t us) = Each (λ m. cell_of (bottom_for t l) m.ident ≡ cell ts m.ident) (walk t top) × CellsTops (bottom_for t l) us

  tops_cells : (i j : ℕ) (us : Trees) → Spread i j us → (l : List (Live Ident)) → All AtBottom l → Continues i us l → CellsTops l us
  tops_cells i j nil p l a c = tt
  tops_cells i j (cons t us) p l a c =
      let k = p.0 + size t in
      let le = p.1 in (
        each_map _ _ (λ m q.
            let r = m.ident.at in
            sym (continued t us l m.ident.name r a q.after (c m.ident.name r (omega (arith, q.from)))
            ∙ last_none _ m.ident.name r (defines_of us) (all_map _ _ (λ d h. omega (arith, q.below)) (defines_of us) (defines_after k j us p.3))))
            (walk t top) (mentions_after p.0 t p.2),
        tops_cells k j us p.3 (bottom_for t l) (values_bottom (define_of t) l a)
            (λ x r h. continued t us l x r a (all_map _ _ (λ d q. omega (arith, q.at, q.below)) (define_of t) (define-at p.0 t p.2))
            (c x r (omega arith))),
      )

module _ (classes : List ℕ) (T : List Row) (ts : Trees) where
  tops_say : (us : Trees) (before : List Use) (l : List (Live Ident)) → CellsTops ts l us → SaysTops classes T before l us
      → Says classes T (cell ts) before (walk_all us top)
  unfolding walk
  tops_say nil before l c s = tt
  tops_say (cons t us) before l c s =
      says_append classes T (cell ts) before (walk t top) (walk_all us top) (says_cell classes T _ (cell ts) before (walk t top) c.0 s.0)
      (tops_say us _ (bottom_for t l) c.1 s.1)

-- of a script
pub script_cells : (ts : Trees) → Nums 0 ts → CellsTops ts (entered_all (top_level ts) []) (top_level ts)
unfolding bottom_entry get_in
script_cells ts n =
    let us = top_level ts in
    tops_cells ts 0 (0 + sizes ts) us (spread_top 0 ts n) (entered_all us []) (entered_bottom us [] tt)
    (λ x r l. ap (λ (o : Option Ident). last_or o (is_value_of x r) (defines_of us)) (sym (get-entered us [] x tt)))

-- what the rows of a fresh run say, along the whole walk
pub fresh_says : (classes : List ℕ) (ts : Trees) → Nums 0 ts → sizes ts ≤ rows_most → inner_defines ts ≡ [] → (fresh classes ts).noted.nine ≡ None
    → Says classes (fresh classes ts).facts.rows (cell ts) [] (events ts)
unfolding events
fresh_says classes ts n h d e =
    let us = top_level ts in
    let T = (fresh classes ts).facts.rows in
    subst (Says classes T (cell ts) []) (walk_top ts top) (tops_say classes T ts us [] (entered_all us []) (script_cells ts n)
    (fresh_script classes any_uses ts n h d e).says)
