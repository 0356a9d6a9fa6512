-- Defines enter the bottom layer on a fresh run.
use Rattle.std.specs.Prelude.{ℕ, ◌+◌, ◌<◌, Bool, true, false, cond, ◌≡◌, get_or}
use mathlib.Core.List.{List, [], ◌∷◌}
use Rattle.std.proofs.Math.Path.{refl, ap}
use Rattle.std.proofs.Common.{sym, subst, ◌∙◌, arith, get_or-set_same}
use Rattle.tree.specs.Tree.{Ident, Tree, Trees, ident, const, if, letin, define, lambda, sequence, call, set!, nil, cons, size, Num}
use Rattle.tree.proofs.Laws.Tree.{size_pos}
use Rattle.tree.specs.Accepted.{All}
use Rattle.scope_map.specs.ScopeMap.{ScopeMap, Live, is_at, has_in, replace_in}
use Rattle.scope_map.specs.ScopeMap as map
use Rattle.semantic.specs.declared.IdentifierStatus.{IdentifierStatus}
use Rattle.r7rs.specs.Binding.{Use, top}
use Rattle.r7rs.specs.Bottom.{Define, define_of}
use Rattle.semantic.specs.Information.{NONE}
use Rattle.pass.specs.State.{Entry, Capture, State, no_entry, insert, put_entry, top_level_entry, newest}
use Rattle.pass.specs.Read.{enter, enter_define, enter_top_level_value}
use Rattle.pass.specs.Visit.{is_lambda, enter_if_lambda, enter_child, enter_children}
use Rattle.pass_laws.specs.Laws.Moves.{by}
use Rattle.pass_laws.specs.Laws.Names.{define_changes, shadow_changes}
use Rattle.pass_laws.specs.Laws.Ranges.{Covers}
use Rattle.pass_laws.specs.Laws.Keeps.{Off}
use Rattle.pass_laws.specs.Spread.{Spread}
use Rattle.pass_laws.specs.Laws.Tops.{spread_end}
use Rattle.pass_laws.specs.Laws.Layers.{live_at}
use Rattle.pass_laws.specs.Laws.Finds.{Global, Finds, all_map}
use Rattle.pass_laws.specs.Laws.Onward.{Parts, untouched, calmly, fewer}
use Rattle.pass_laws.specs.Laws.Reads.{Only}
use Rattle.pass_laws.specs.Laws.Enters.{enter_captures, enter_entries}
use Rattle.pass_laws.specs.Laws.Bodies.{no_part}

-- the bottom layer once the name x has entered
abbrev pub defined_in : Ident → List (Live Ident) → List (Live Ident)
defined_in x bottom = cond (has_in 1 x.name bottom) (replace_in 1 x.name x bottom) (live_at 1 x ∷ bottom)

all-replaced : (G : Live Ident → Type 0) (x : Ident) (l : List (Live Ident)) → G (live_at 1 x) → All G l → All G (replace_in 1 x.name x l)
unfolding replace_in
all-replaced G x [] g a = tt
all-replaced G x (e ∷ l) g a = go (is_at 1 x.name e) (all-replaced G x l g a.1)
  where
    go : (b : Bool) → All G (replace_in 1 x.name x l) → All G (cond b (live_at 1 x ∷ l) (e ∷ replace_in 1 x.name x l))
    go true r = (g, a.1)
    go false r = (a.0, r)

pub all-defined : (G : Live Ident → Type 0) (x : Ident) (l : List (Live Ident)) → G (live_at 1 x) → All G l → All G (defined_in x l)
all-defined G x l g a = go (has_in 1 x.name l)
  where
    go : (b : Bool) → All G (cond b (replace_in 1 x.name x l) (live_at 1 x ∷ l))
    go true = all-replaced G x l g a
    go false = (g, a)

module _ (classes : List ℕ) {own left : ℕ → Type 0} {bottom : List (Live Ident)} {before : List Use} {s : State} (x : Ident) (b : Tree)
    (parts : Parts own (Only x.at) left) (o : own x.at) (f : Finds own bottom before top s) where
  pub define_finds : (k : IdentifierStatus) (a : ℕ) → Finds left (defined_in x bottom) before top (enter_define classes k a x b s)
  unfolding enter_define enter insert put_entry
  define_finds k a =
      let tables = untouched parts f.tables (by (define_changes classes k a x b s refl)) in
      let here = enter_entries x top_level_entry s ∙ refl in
      let entered : Global left (enter x top_level_entry s).scope.entries (live_at 1 x) =
      record {
        layer = omega arith;
        depth = ap (λ (E : List Entry). (get_or E x.at no_entry).depth) (enter_entries x top_level_entry s)
            ∙ ap (λ (e : Entry). e.depth) (get_or-set_same s.scope.entries x.at top_level_entry no_entry (f.tables.entries x.at o));
        apart = λ l. parts.apart x.at l refl;
      } in
      record {
        tables = record { rows = tables.rows; entries = tables.entries; blank = tables.blank; globals = all-defined _ x bottom entered tables.globals };
        unused = λ y l. f.unused y (parts.kept y l);
        captures = ap (λ (m : ScopeMap Capture). m.live) (enter_captures x top_level_entry s) ∙ f.captures;
        one = f.one;
        live = ap (λ (m : ScopeMap Ident). map.define x.name x m) f.live;
        around = tt;
        stands = tt;
      }

-- a value define marks the builtin that it hides first
pub value_finds : (classes : List ℕ) {own left : ℕ → Type 0} {bottom : List (Live Ident)} {before : List Use} {s : State} (x : Ident) (b : Tree) → Parts own (Only x.at) left → own x.at
    → Finds own bottom before top s → Finds left (defined_in x bottom) before top (enter_top_level_value classes x b s)
unfolding enter_top_level_value
value_finds classes {s = s} x b parts o f = define_finds classes x b parts o (calmly no_part f (λ free. shadow_changes classes (newest s x.name) s)) _ _

-- The lambda defines at top level enter first

-- the record y is the name's of no lambda define
abbrev pub SparedBy : Tree → ℕ → Type 0
SparedBy t y = All (λ d. d.is_lambda ≡ true → ¬ (y ≡ d.name.at)) (define_of t)

abbrev pub Spared : Trees → ℕ → Type 0
Spared nil y = Unit {0}
Spared (cons t ts) y = SparedBy t y × Spared ts y

-- the bottom layer with the lambda defines; with a value define, which enters before its body

abbrev pub lambdas_in : List Define → List (Live Ident) → List (Live Ident)
lambdas_in [] l = l
lambdas_in (d ∷ ds) l = lambdas_in ds (cond d.is_lambda (defined_in d.name l) l)

abbrev pub values_in : List Define → List (Live Ident) → List (Live Ident)
values_in [] l = l
values_in (d ∷ ds) l = values_in ds (cond d.is_lambda l (defined_in d.name l))

abbrev pub entered_all : Trees → List (Live Ident) → List (Live Ident)
entered_all nil l = l
entered_all (cons t ts) l = entered_all ts (lambdas_in (define_of t) l)

-- where the define of a tree stands
pub record DefineAt (k j : ℕ) (d : Define) : Type 0 where
  pub at : d.at ≡ k
  pub name : d.name.at ≡ k + 1
  pub below : k + 1 < j

pub define-at : (k : ℕ) (t : Tree) → Num k t → All (DefineAt k (k + size t)) (define_of t)
unfolding Num size
define-at k (ident x) n = tt
define-at k (const m q) n = tt
define-at k (if m a b c) n = tt
define-at k (letin m xs es b) n = tt
define-at k (define m x b) n = (record { at = n.0; name = n.1; below = omega (arith, size_pos b) }, tt)
define-at k (lambda m xs b) n = tt
define-at k (sequence m es) n = tt
define-at k (call m h es) n = tt
define-at k (set! m x e) n = tt

-- a record outside a tree is not its name's
pub spared_past : (k : ℕ) (t : Tree) → Num k t → (y : ℕ) → Off k (k + size t) y → SparedBy t y
spared_past k t n y o = all_map (λ d p e q. o (omega (arith, p.name)) (omega (arith, p.name, p.below))) (define_of t) (define-at k t n)

-- What lasts with fewer records to write, and as one name enters, lasts as all of them do.
module _ (classes : List ℕ) (kind : IdentifierStatus) (I : (ℕ → Type 0) → List (Live Ident) → State → Type 0)
    (lasts : (own left : ℕ → Type 0) (bottom : List (Live Ident)) (s : State) → ((y : ℕ) → left y → own y) → I own bottom s → I left bottom s)
    (defined : (own left : ℕ → Type 0) (bottom : List (Live Ident)) (s : State) (x : Ident) (b : Tree) → Parts own (Only x.at) left → own x.at
    → I own bottom s → I left (defined_in x bottom) (enter_define classes kind NONE x b s)) where
  open_lambda_lem : {own left : ℕ → Type 0} {bottom : List (Live Ident)} {s : State} (x : Ident) (b : Tree) (q : Bool) → is_lambda b ≡ q → own x.at
      → ((y : ℕ) → left y → own y) → ((y : ℕ) → left y → is_lambda b ≡ true → ¬ (y ≡ x.at)) → I own bottom s
      → I left (cond q (defined_in x bottom) bottom) (enter_if_lambda classes kind q x b s)
  open_lambda_lem {own} x b true e o l a f = defined _ _ _ _ x b (record { written = λ y q. subst own (sym q) o; kept = l; apart = λ y z q. a y z e q }) o f
  open_lambda_lem x b false e o l a f = lasts _ _ _ _ l f

  enter_one : {own left : ℕ → Type 0} {bottom : List (Live Ident)} {s : State} (k : ℕ) (t : Tree) → Num k t → Covers own k (k + size t)
      → ((y : ℕ) → left y → own y) → ((y : ℕ) → left y → SparedBy t y) → I own bottom s → I left (lambdas_in (define_of t) bottom) (enter_child classes kind t s)
  unfolding Num size
  enter_one k (ident x) n o l a f = lasts _ _ _ _ l f
  enter_one k (const m q) n o l a f = lasts _ _ _ _ l f
  enter_one k (if m b c d) n o l a f = lasts _ _ _ _ l f
  enter_one k (letin m xs es b) n o l a f = lasts _ _ _ _ l f
  enter_one k (define m x b) n o l a f = open_lambda_lem x b (is_lambda b) refl (o x.at (omega arith) (omega arith)) l (λ y z. (a y z).0) f
  enter_one k (lambda m xs b) n o l a f = lasts _ _ _ _ l f
  enter_one k (sequence m es) n o l a f = lasts _ _ _ _ l f
  enter_one k (call m h es) n o l a f = lasts _ _ _ _ l f
  enter_one k (set! m x e) n o l a f = lasts _ _ _ _ l f

  pub enter-all : {own left : ℕ → Type 0} {bottom : List (Live Ident)} {s : State} (i j : ℕ) (ts : Trees) → Spread i j ts → Covers own i j
      → ((y : ℕ) → left y → own y) → ((y : ℕ) → left y → Spared ts y) → I own bottom s → I left (entered_all ts bottom) (enter_children classes kind ts s)
  unfolding enter_children
  enter-all i j nil p o l a f = lasts _ _ _ _ l f
  enter-all {own} i j (cons t ts) p o l a f =
      let k = p.0 + size t in
      let le = p.1 in
      let end = spread_end k j ts p.3 in
      enter-all {own = λ y. own y × SparedBy t y} k j ts p.3 (λ y u v. (o y (omega arith) v, spared_past p.0 t p.2 y (λ c d. omega arith))) (λ y z. (l y z, (a y z).0)) (λ y z. (a y z).1)
      (enter_one {left = λ y. own y × SparedBy t y} p.0 t p.2 (λ y u v. o y (omega arith) (omega arith)) (λ y z. z.0) (λ y z. z.1) f)

pub enter_tops : (classes : List ℕ) (kind : IdentifierStatus) {own left : ℕ → Type 0} {bottom : List (Live Ident)} {before : List Use} {s : State} (i j : ℕ) (ts : Trees)
    → Spread i j ts → Covers own i j → ((y : ℕ) → left y → own y) → ((y : ℕ) → left y → Spared ts y) → Finds own bottom before top s
    → Finds left (entered_all ts bottom) before top (enter_children classes kind ts s)
enter_tops classes kind {before = before} i j ts p o l a f =
    enter-all classes kind (λ own bottom s. Finds own bottom before top s) (λ own left bottom s. fewer) (λ own left bottom s x b parts o f. define_finds classes x b parts o f kind NONE) i j ts p o l a f
