-- What refusals 9 to 12 come to where no define is inner, by structure alone. Document 01, "What the operations answer".
use Rattle.std.specs.Prelude.{ℕ, ◌+◌, List, [], ◌∷◌, Bool, true, false, cond, not, ◌&&◌, ◌||◌, eqb, ltb, Option, None, Some}
use Rattle.tree.specs.Tree.{Ident, Trees, bit}
use Rattle.tree.specs.Check.{Refusal, member, or_else}
use Rattle.pass.specs.Lists.{captured_most}
use Rattle.r7rs.specs.Binding.{Binder, Mention, Event, enters, mentions, ends, mentions_in, events, find, meant}
use Rattle.execution.specs.References.{is_set_of, is_inner_of, any, is_shared}

-- 9, "a binder entering a layer above the bottom where its name is live": the first in entering order. The names in scope are the live ones.

unfoldable pub is_live : Binder → List Binder → Bool
is_live b [] = false
is_live b (c ∷ sc) = (eqb c.home.layer b.home.layer && eqb c.ident.name b.ident.name) || is_live b sc

unfoldable pub nine_in : List Event → Option ℕ
nine_in [] = None
nine_in (enters b sc ∷ l) = cond (is_live b sc) (Some b.ident.at) (nine_in l)
nine_in (mentions m ∷ l) = nine_in l
nine_in (ends i xs sc ∷ l) = nine_in l

-- 10, "more than 4,096 captured entries over all lambdas": the lambda whose list, in order of lambda ends, passes the limit. A lambda's list has one
-- entry for each name in scope around it that is none of its parameters (xs), if an inner lambda has by then mentioned the innermost binder of that name.

abbrev pub has_name : ℕ → List Ident → Bool
has_name x [] = false
has_name x (y ∷ ys) = eqb x y.name || has_name x ys

abbrev pub is_captured : List Mention → Option Binder → Bool
is_captured seen None = false
is_captured seen (Some b) = any (is_inner_of b) seen

-- around: all the names in scope; sc: those to count
unfoldable pub list_length : List Mention → List Ident → List Binder → List Binder → ℕ
list_length seen xs around [] = 0
list_length seen xs around (c ∷ sc) =
    bit (not (has_name c.ident.name xs) && is_captured seen (find around c.ident.name)) + list_length seen xs around sc

-- seen: the mentions so far; n: the entries so far
unfoldable pub ten_from : List Mention → ℕ → List Event → Option ℕ
ten_from seen n [] = None
ten_from seen n (enters b sc ∷ l) = ten_from seen n l
ten_from seen n (mentions m ∷ l) = ten_from (m ∷ seen) n l
ten_from seen n (ends i xs sc ∷ l) =
    let k = n + list_length seen xs sc sc in
    cond (ltb captured_most k) (Some i) (ten_from seen k l)

abbrev pub ten_in : List Event → Option ℕ
ten_in l = ten_from [] 0 l

-- 11, "a let name captured and mutated on the first run, in a let outside any lambda"

abbrev pub is_empty : List ℕ → Bool
is_empty [] = true
is_empty (i ∷ is) = false

abbrev pub is_eleven : List Mention → Binder → Bool
is_eleven all b = b.is_let && (is_empty b.around && is_shared b all)

-- 12, "a read whose taken capture has a read offset and no capture offset", at the mention m of b: b is bound outside the second lambda around m, is in
-- scope there under its name in one layer alone, is not set by the end of the first, and is set after that end, before the end of the second.
-- `before` and `after` are the mentions before and after m.

-- another layer has a name in scope like b's
unfoldable pub is_doubled : Binder → List Binder → Bool
is_doubled b [] = false
is_doubled b (c ∷ sc) = (eqb c.ident.name b.ident.name && not (eqb c.home.layer b.home.layer)) || is_doubled b sc

abbrev pub is_set_within : ℕ → Binder → Mention → Bool
is_set_within i b o = is_set_of b o && member i o.place.around

abbrev pub is_twelve_of : List Mention → List Mention → Mention → Binder → List ℕ → Bool
is_twelve_of before after m b [] = false
is_twelve_of before after m b (i ∷ []) = false
is_twelve_of before after m b (i ∷ j ∷ is) =
    not (member j b.around)
    && (not (is_doubled b m.place.scope)
    && (not (any (is_set_of b) before || any (is_set_within i b) (m ∷ after)) && any (λ o. is_set_within j b o && not (is_set_within i b o)) after))

abbrev pub is_twelve : List Mention → List Mention → Mention → Option Binder → Bool
is_twelve before after m None = false
is_twelve before after m (Some b) = is_twelve_of before after m b m.place.around

-- the first of both that the second run meets
module _ (all : List Mention) where
  unfoldable pub second_from : List Mention → List Event → Option Refusal
  second_from before [] = None
  second_from before (enters b sc ∷ l) = cond (is_eleven all b) (Some (record { number = 11; at = b.ident.at })) (second_from before l)
  second_from before (mentions m ∷ l) =
      cond (is_twelve before (mentions_in l) m (meant m)) (Some (record { number = 12; at = m.ident.at })) (second_from (m ∷ before) l)
  second_from before (ends i xs sc ∷ l) = second_from before l

abbrev pub second_in : List Event → Option Refusal
second_in l = second_from (mentions_in l) [] l

-- What a run refuses: "each check covers the whole input before the next", and 11 and 12 stand after 10, where the second run meets one first

abbrev pub fresh_refusal : Trees → Option Refusal
fresh_refusal ts = or_else 9 (nine_in (events ts)) (or_else 10 (ten_in (events ts)) None)

abbrev pub settled_refusal : Trees → Option Refusal
settled_refusal ts = or_else 9 (nine_in (events ts)) (or_else 10 (ten_in (events ts)) (second_in (events ts)))
