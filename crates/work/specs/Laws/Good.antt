-- What keeps a state good: changes that keep the lengths of tables, and what each thing held is.
use Rattle.std.specs.Prelude.{ℕ, List, ◌≡◌, refl, length, Option, None, Some}
use Rattle.std.proofs.Common.{ap, ◌∙◌, arith}
use Rattle.tree.specs.Tree.{Ident}
use Rattle.semantic.specs.Information.{mark_last_usage}
use Rattle.semantic.specs.Rows.{Row}
use Rattle.semantic.specs.declared.SemanticInformation.{SemanticInformation}
use Rattle.pass.specs.State.{State, Facts, Entry, insert, amend}
use Rattle.pass.specs.Read.{enter}
use Rattle.pass.specs.Lambda.{mark_last}
use Rattle.pass_laws.specs.Sound.{Property, Lawful, Each, known, anything}
use Rattle.pass_laws.specs.Laws.Sound.Known.{knowing}
use Rattle.pass_laws.specs.Laws.Sound.Counted.{asking_nothing}
use Rattle.work.specs.Known.{Known}
use Rattle.work.specs.Tied.{Good}
use Rattle.work.specs.Laws.Tied.{count-insert, count-amend, enter_facts}

pub record Sized (s t : State) : Type 0 where
  pub rows : length t.facts.rows ≡ length s.facts.rows
  pub arguments : length t.facts.arguments ≡ length s.facts.arguments

pub sized_same : (s : State) → Sized s s
sized_same s = record { rows = refl; arguments = refl }

pub sized_then : {s t u : State} → Sized s t → Sized t u → Sized s u
sized_then a b = record { rows = b.rows ∙ a.rows; arguments = b.arguments ∙ a.arguments }

pub sized_facts : {s t : State} → t.facts ≡ s.facts → Sized s t
sized_facts e = record { rows = ap (λ (f : Facts). length f.rows) e; arguments = ap (λ (f : Facts). length f.arguments) e }

pub sized_enter : (x : Ident) (e : Entry) (s : State) → Sized s (enter x e s)
sized_enter x e s = sized_facts (enter_facts x e s)

pub sized_insert : (i : ℕ) (r : Row) (s : State) → Sized s (insert i r s)
unfolding insert
sized_insert i r s = record { rows = count-insert s i r; arguments = refl }

pub sized_amend : (f : SemanticInformation → SemanticInformation) (i : ℕ) (s : State) → Sized s (amend f i s)
unfolding insert amend
sized_amend f i s = record { rows = count-amend s i f; arguments = refl }

pub sized_last : (o : Option Ident) (s : State) → Sized s (mark_last o s)
sized_last None s = sized_same s
sized_last (Some x) s = sized_amend mark_last_usage x.at s

-- every property of what is held passes on, if it has G
pub good_where : {rs : List ℕ} {s t : State} (G : Property → Type 0) → G (known (Known rs)) → G anything → Good rs s → Sized s t
    → ((Q : Property) → Lawful Q → G Q → (F : ℕ → Type 0) → F 0 → Each Q F s → Each Q F t) → Good rs t
good_where G a b g z k = record {
  rows = z.rows ∙ g.rows;
  arguments = z.arguments ∙ g.arguments;
  sound = k _ (knowing (λ x p. p.few)) a _ tt g.sound;
  counted = k _ asking_nothing b _ (omega arith) g.counted;
}

-- or whatever it is
pub good_each : {rs : List ℕ} {s t : State} → Good rs s → Sized s t
    → ((Q : Property) → Lawful Q → (F : ℕ → Type 0) → F 0 → Each Q F s → Each Q F t) → Good rs t
good_each g z k = good_where (λ Q. Unit {0}) tt tt g z (λ Q l u. k Q l)
