-- One part of the work table changes: the others hold what they held.
use Prim.Native.Nat.{ℕ, suc, ◌+◌, ◌≤◌}
use mathlib.Core.List.{List, [], ◌∷◌}
use mathlib.Core.Path.{◌≡◌, refl, ap, sym, subst, ◌∙◌}
use native.Mathlib.Omega.{arith}
use lib.ListN.{length, take, drop, set, length-drop, length-set}
use lib.Seq.{sets, drop-drop}
use Rattle.table.specs.Layout.{layout}
use Rattle.table.specs.Region.{region, replaced}
use Rattle.table.specs.Laws.Region.{Elsewhere, within, replaced-region, replaced_elsewhere, set-region, set_elsewhere, elsewhere_same, elsewhere_then}
use Rattle.tree.specs.Tree.{Ident}
use Rattle.scope_map.specs.ScopeMap.{ScopeMap}
use Rattle.scope_map.specs.Map.{map_values}
use Rattle.scope_map.specs.Held.{Held}
use Rattle.scope_map.specs.declared.ScopeMap.{ScopeMap as Map}
use Rattle.semantic.specs.Rows.{ListEntry}
use Rattle.pass.specs.State.{State, Entry, Capture, with_names, with_entries, with_captures, with_captured}
use Rattle.work.specs.Coded.{put_entry_row, put_binder}
use Rattle.work.specs.Works.{work_long, scope_length, entries_first, entries_length, captures_first, captures_length, capture_data_first, capture_data_length, binders_first, binders_length, record_at, row_of, TakenIn, Works}
use Rattle.work.specs.Laws.Works.{part_length}
use Rattle.work.specs.Passes.{in_scope, in_captures}
use Rattle.work.specs.declared.Pass.{Pass}

-- Numbers of a part of a table: read, and written

module _ (w : List ℕ) (a n : ℕ) (h : a + n ≤ length w) where
  pub read-part : (j m : ℕ) → j + m ≤ n → region w (a + j) m ≡ region (region w a n) j m
  read-part j m g = ap (take m) (sym (drop-drop j a w)) ∙ within (drop a w) n j m (omega (arith, length-drop a w)) g

pub write_part : (ys w : List ℕ) (a n j : ℕ) → a + n ≤ length w → j + length ys ≤ n → region (sets w (a + j) ys) a n ≡ sets (region w a n) j ys
write_part [] w a n j h g = refl
write_part (y ∷ ys) w a n j h g =
    ap (λ (k : ℕ). region (sets (set w (a + j) y) k ys) a n) (omega arith)
    ∙ write_part ys (set w (a + j) y) a n (suc j) (omega (arith, length-set w (a + j) y)) (omega arith)
    ∙ ap (λ (l : List ℕ). sets l (suc j) ys) (set-region w a n h j y (omega arith))

pub write_elsewhere : (ys w : List ℕ) (a n j : ℕ) → a + n ≤ length w → j + length ys ≤ n → Elsewhere a n w (sets w (a + j) ys)
write_elsewhere [] w a n j h g = elsewhere_same
write_elsewhere (y ∷ ys) w a n j h g =
    elsewhere_then (set_elsewhere w a n h j y (omega arith))
    (subst (λ (k : ℕ). Elsewhere a n (set w (a + j) y) (sets (set w (a + j) y) k ys)) (omega arith)
    (write_elsewhere ys (set w (a + j) y) a n (suc j) (omega (arith, length-set w (a + j) y)) (omega arith)))

-- the captures' map comes back as ys
module _ (w ys : List ℕ) (h : length w ≡ work_long) (l : length ys ≡ length (region w captures_first captures_length)) where
  many : length ys ≡ captures_length
  many = l ∙ part_length w h captures_first captures_length (omega arith)

  pub map_elsewhere : Elsewhere captures_first captures_length w (replaced w captures_first captures_length ys)
  map_elsewhere = replaced_elsewhere w captures_first captures_length (omega arith) ys many

  pub map_back : region (replaced w captures_first captures_length ys) captures_first captures_length ≡ ys
  map_back = replaced-region w captures_first captures_length (omega arith) ys many

module _ {p : Pass} {w w' : List ℕ} {s : State} (k : Works p w s) where
  pub names_changed : (m : Map) (l : ScopeMap Ident) → Elsewhere 0 scope_length w w' → Held m (region w' 0 scope_length) (map_values record_at l)
      → Works (in_scope m p) w' (with_names l s)
  names_changed m l e h = record {
    long = e.long ∙ k.long;
    names = h;
    entries = e.after entries_first entries_length (omega arith) ∙ k.entries;
    captures = rw (e.after captures_first captures_length (omega arith)) k.captures;
    taken = rw (e.after capture_data_first capture_data_length (omega arith)) k.taken;
    binders = e.after binders_first binders_length (omega arith) ∙ k.binders;
    beside = k.beside;
  }

  pub entries_changed : (l : List Entry) → Elsewhere entries_first entries_length w w' → region w' entries_first entries_length ≡ layout put_entry_row l
      → Works p w' (with_entries l s)
  entries_changed l e h = record {
    long = e.long ∙ k.long;
    names = rw (e.before 0 scope_length (omega arith)) k.names;
    entries = h;
    captures = rw (e.after captures_first captures_length (omega arith)) k.captures;
    taken = rw (e.after capture_data_first capture_data_length (omega arith)) k.taken;
    binders = e.after binders_first binders_length (omega arith) ∙ k.binders;
    beside = k.beside;
  }

  -- the captures and what is known of each stand side by side
  pub captures_changed : (m : Map) (l : ScopeMap Capture) → Elsewhere captures_first (captures_length + capture_data_length) w w'
      → Held m (region w' captures_first captures_length) (map_values row_of l) → TakenIn (region w' capture_data_first capture_data_length) l.live
      → Works (in_captures m p) w' (with_captures l s)
  captures_changed m l e h t = record {
    long = e.long ∙ k.long;
    names = rw (e.before 0 scope_length (omega arith)) k.names;
    entries = e.before entries_first entries_length (omega arith) ∙ k.entries;
    captures = h;
    taken = t;
    binders = e.after binders_first binders_length (omega arith) ∙ k.binders;
    beside = k.beside;
  }

  pub binders_changed : (l : List ListEntry) → Elsewhere binders_first binders_length w w' → region w' binders_first binders_length ≡ layout put_binder l
      → Works p w' (with_captured l s)
  binders_changed l e h = record {
    long = e.long ∙ k.long;
    names = rw (e.before 0 scope_length (omega arith)) k.names;
    entries = e.before entries_first entries_length (omega arith) ∙ k.entries;
    captures = rw (e.before captures_first captures_length (omega arith)) k.captures;
    taken = rw (e.before capture_data_first capture_data_length (omega arith)) k.taken;
    binders = h;
    beside = k.beside;
  }
