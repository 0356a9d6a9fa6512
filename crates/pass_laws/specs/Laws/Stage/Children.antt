-- Names that enter before the visits, in a begin or at top level, write no record of a lambda or a let.
use Rattle.std.specs.Prelude.{ℕ, ◌+◌, ◌≤◌, ◌<◌, List, ◌≡◌, refl}
use Rattle.std.proofs.Common.{arith}
use Rattle.tree.specs.Tree.{Tree, Trees, ident, const, if, letin, define, lambda, sequence, call, set!, nil, cons, size, sizes, Num, Nums}
use Rattle.semantic.specs.Information.{NONE}
use Rattle.semantic.specs.Rows.{Row}
use Rattle.tree.specs.Core.{core, cores}
use Rattle.tree.proofs.Laws.Core.{to_core, from_core, num_core}
use Rattle.semantic.specs.declared.IdentifierStatus.TheVariants.{LocallyDefinedFunction}
use Rattle.semantic.specs.declared.IdentifierStatus.{IdentifierStatus}
use Rattle.pass.specs.State.{State}
use Rattle.pass.specs.Visit.{enter_child, enter_children}
use Rattle.pass_laws.specs.Stage.{Blocks, BlocksIn, BlocksAllIn}
use Rattle.pass_laws.specs.Laws.Changes.{Changes, same}
use Rattle.pass_laws.specs.Laws.Names.{define_changes}
use Rattle.pass_laws.specs.Laws.Visits.{children_changes, writes_cores}
use Rattle.pass_laws.specs.Laws.Ranges.{trees_writes}
use Rattle.pass_laws.specs.Laws.Keeps.{Off}
use Rattle.pass_laws.specs.Laws.Cases.{by_child}
use Rattle.pass_laws.specs.Laws.Stage.Lists.{Lasting}
use Rattle.pass_laws.specs.Laws.Stage.Blocks.{changes_lasting, Kind, blocks_last, blocks_last-all}

-- the record of a define's name
abbrev pub NameOf : Tree → ℕ → Type 0
NameOf (ident x) y = ⊥
NameOf (const n q) y = ⊥
NameOf (if n a b c) y = ⊥
NameOf (letin n xs es b) y = ⊥
NameOf (define n x b) y = y ≡ x.at
NameOf (lambda n xs b) y = ⊥
NameOf (sequence n es) y = ⊥
NameOf (call n h es) y = ⊥
NameOf (set! n x e) y = ⊥

named-within : (i : ℕ) (t : Tree) → Num i t → (y : ℕ) → NameOf t y → (i ≤ y) × (y < i + size t)
unfolding Num size
named-within i (ident x) n y e = absurd e
named-within i (const m q) n y e = absurd e
named-within i (if m a b c) n y e = absurd e
named-within i (letin m xs es b) n y e = absurd e
named-within i (define m x b) n y e = (omega (arith, e, n.1), omega (arith, e, n.1))
named-within i (lambda m xs b) n y e = absurd e
named-within i (sequence m es) n y e = absurd e
named-within i (call m h es) n y e = absurd e
named-within i (set! m x e) n y d = absurd d

-- other trees' records are none of it
pub named_other : (i : ℕ) (t : Tree) → Num i t → {s u : State} → Changes (NameOf t) s u → (j k : ℕ)
    → ((x : ℕ) → j ≤ x → x < k → i ≤ x → x < i + size t → ⊥) → Lasting j k s u
named_other i t n c j k o = changes_lasting c (λ x l h y. let p = named-within i t n x y in o x l h p.0 p.1)

module _ {F L : Row → Type 0} (kind : Kind F L) where
  -- nor are its own lambdas and lets
  pub named_blocks : (i : ℕ) (t : Tree) → Num i t → {s u : State} → Changes (NameOf t) s u → BlocksIn F L s t → BlocksIn F L u t
  unfolding Num size Blocks
  named_blocks i (ident x) n c b = tt
  named_blocks i (const m q) n c b = tt
  named_blocks i (if m t u v) n c b = blocks_last kind i (if m t u v) n (changes_lasting c (λ x l h o. o)) b
  named_blocks i (letin m xs es t) n c b = blocks_last kind i (letin m xs es t) n (changes_lasting c (λ x l h o. o)) b
  named_blocks i (define m x t) n c b = blocks_last kind (i + 2) t n.2 (changes_lasting c (λ y l h e. omega (arith, e, n.1))) b
  named_blocks i (lambda m xs t) n c b = blocks_last kind i (lambda m xs t) n (changes_lasting c (λ x l h o. o)) b
  named_blocks i (sequence m es) n c b = blocks_last kind i (sequence m es) n (changes_lasting c (λ x l h o. o)) b
  named_blocks i (call m t es) n c b = blocks_last kind i (call m t es) n (changes_lasting c (λ x l h o. o)) b
  named_blocks i (set! m x t) n c b = blocks_last kind i (set! m x t) n (changes_lasting c (λ y l h o. o)) b

module _ (classes : List ℕ) where
  pub child_named : (kind : IdentifierStatus) (t : Tree) (s : State) → Changes (NameOf t) s (enter_child classes kind t s)
  child_named kind = by_child classes (λ u g. (s : State) → Changes (NameOf u) s (g s)) kind (λ u s. same) (λ n x b e s. define_changes classes kind NONE x b s refl)

  -- all of them
  module _ {F L : Row → Type 0} (kind : Kind F L) where
    -- the blocks of a tree are those of what it is
    core_blocks : (i : ℕ) (t : Tree) → Num i t → {s u : State} → Changes (NameOf (core t)) s u → BlocksIn F L s t → BlocksIn F L u t
    unfolding Blocks
    core_blocks i t n {s} {u} c b =
        let m = num_core i t n in
        from_core (BlocksIn F L u) (λ n b. tt) (λ n t b. (b, tt)) t
        (named_blocks kind m.0 (core t) m.2 c (to_core (BlocksIn F L s) (λ n b. tt) (λ n t b. b.0) t b))

    pub children_blocks : (i : ℕ) (ts : Trees) → Nums i ts → (s : State) → BlocksAllIn F L s ts → BlocksAllIn F L (enter_children classes LocallyDefinedFunction (cores ts) s) ts
    unfolding enter_children Blocks Num size
    children_blocks i nil n s b = tt
    children_blocks i (cons t ts) n s b =
        let u = enter_child classes LocallyDefinedFunction (core t) s in
        let c = child_named _ (core t) s in
        let m = num_core i t n.0 in
        let d = children_changes classes LocallyDefinedFunction (cores ts) u (writes_cores _ _ ts (trees_writes (Off i (i + size t)) (i + size t) ts n.1 (λ x l h p q. omega arith))) in (
          blocks_last kind i t n.0 (changes_lasting d (λ x l h o. o l h)) (core_blocks i t n.0 c b.0),
          children_blocks (i + size t) ts n.1 u
              (blocks_last-all kind (i + size t) ts n.1
              (named_other m.0 (core t) m.2 c (i + size t) (i + size t + sizes ts) (λ x l h p q. omega (arith, m.3))) b.1),
        )
