-- Spots of targets.
use Rattle.std.proofs.Common.{◌≡◌, ◌<◌, ◌+◌, refl, ap, sym, ◌∙◌, ℕ, List, [], ◌∷◌, ◌++◌, append_assoc, append-nil, arith, length, map, get_or, drop}
use Rattle.std.specs.Prelude.{All}
use Rattle.std.proofs.lemmas.List.{at_drop_more, map-append}
use Rattle.std.proofs.lemmas.Grind.{common_steps}
use Rattle.std.specs.declared.alloc.Global.{Global}
use Rattle.std.specs.declared.vec.Vec.{Vec}
use Rattle.vl_design.specs.declared.design.Target.{Target as TargetCode}
use Rattle.vl_design.specs.declared.design.TargetNode as t
use Rattle.vl_design.specs.declared.design.TargetNode.TheBlock as tb
use Rattle.vl_design.specs.Syntax.{Exp, WordAt, Several, MoreTargets}
use Rattle.vl_design.specs.Plainly as plain
use Rattle.vl_design.specs.Seen as seen
use Rattle.vl_design.specs.Trees.{target_of}
use Rattle.vl_design.specs.Width.{Names, Scope, signal_form}
use Rattle.vl_design.specs.Value.{Sample}
use Rattle.vl_design.specs.Sound.{IsNamed}
use Rattle.vl_design.specs.Targets.{Spot, spots, spots_width, target_width}
use Rattle.vl_eval.proofs.Names.{named-width, named-there, signal-named, memory-named}
use Rattle.vl_eval.specs.declared.spot.Spot.{Spot as SpotCode}
use Rattle.vl_eval.specs.Spots.{spot_of, IsSoundSpot}
use Rattle.vl_run.specs.Lists.{targets_of, Spotted}

-- ---- lists of targets

row_targets-items : {m : _} (k : t.Row_of-Target m) → plain.targets (seen.row_targets k) ≡ targets_of (t.items-the_row-Target m k)
row_targets-items t.end_of-Target = refl
row_targets-items (t.more_of-Target q v rest) = ap (MoreTargets (plain.target (seen.node_target q v))) (row_targets-items rest)

-- a target whose node is a list has the tree of the list
pub list-of : (x : TargetCode) (v : Vec TargetCode Global) → x.node ≡ t.List v → target_of x ≡ Several (targets_of v.items)
list-of x v h =
    ap (λ n. plain.target (seen.node_target x.place n)) h
    ∙ ap Several (row_targets-items (tb.hidden-the_row-Target-0 v) ∙ ap targets_of (t.items_hidden-the_row-Target-0 v))

-- the rest of a list of targets begins with the next one
pub targets-more : (xs : List TargetCode) (i : ℕ) (x : TargetCode) → i < length xs → x ≡ get_or xs i x → targets_of (drop i xs) ≡ MoreTargets (target_of x) (targets_of (drop (i + 1) xs))
targets-more xs i x h e = at_drop_more targets_of xs i x h ∙ ap (λ y. MoreTargets (target_of y) (targets_of (drop (i + 1) xs))) (sym e)

-- ---- spots behind others

pub width-append : (xs ys : List Spot) → spots_width (xs ++ ys) ≡ spots_width xs + spots_width ys
width-append [] ys = omega arith
width-append (x ∷ xs) ys = let e = width-append xs ys in omega (arith, e)

pub spotted-none : (names : Names) (old : List SpotCode) → Spotted names old old [] 0
spotted-none names old = record { are = sym (append-nil (map spot_of old)); sound = λ h. h; width = refl }

pub spotted-one : (names : Names) (old new : List SpotCode) (p : SpotCode) (ss : List Spot) (w : ℕ) → new ≡ old ++ p ∷ [] → IsSoundSpot names p → ss ≡ spot_of p ∷ [] → p.width ≡ w → Spotted names old new ss w
spotted-one names old new p ss w h s e i = record {
  are = ap (map spot_of) h ∙ (map-append spot_of old (p ∷ []) ∙ ap (λ z. map spot_of old ++ z) (sym e));
  sound = λ a. rw h (grind (arith, common_steps, a, s));
  width = ap spots_width e ∙ omega (arith, i);
}

pub spotted-on : (names : Names) (a b c : List SpotCode) (ss us : List Spot) (v w : ℕ) → Spotted names a b ss v → Spotted names b c us w → Spotted names a c (ss ++ us) (v + w)
spotted-on names a b c ss us v w h k = record {
  are = k.are ∙ (ap (λ z. z ++ us) h.are ∙ append_assoc (map spot_of a) ss us);
  sound = λ s. k.sound (h.sound s);
  width = width-append ss us ∙ let x = h.width in let y = k.width in omega (arith, x, y);
}

-- the spot of a word has the word's width
pub word-width : (scope : Scope) (s : Sample) (m : ℕ) (a : Exp) (p : SpotCode) → spots scope s (WordAt m a) ≡ spot_of p ∷ [] → p.width ≡ target_width scope.names (WordAt m a)
word-width scope s m a p h = let k : (signal_form scope.names.rows m).width + 0 ≡ p.width + 0 = ap spots_width h in omega (arith, k)

pub spots-named : (names : Names) (ps : List SpotCode) → All (IsSoundSpot names) ps → All (λ p. IsNamed names p.signal) ps
spots-named names ps h = λ i d l. (h i d l).named

pub ruleset named = (named-width, named-there, signal-named, memory-named)

pub ruleset added = (spotted-one)
