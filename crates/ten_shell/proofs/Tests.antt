-- What tests of a shell's point come to.
use Rattle.std.proofs.Common.{◌≡◌, ℕ, Bool, true, false, cond, not, ◌&&◌, ◌||◌, List, [], ◌∷◌, ◌++◌, map, ◌≤◌, ◌<◌, arith, refl, sym, ap, Option, Some, None, Result, Ok, Err}
use Rattle.std.specs.Prelude.{nat_le, is_some, option_map, IfNone, IfSome, IfOk}
use Rattle.std.proofs.lemmas.Bool.Decides.{nat_tests}
use Rattle.vl_design.specs.declared.design.End.{End}
use Rattle.vl_design.specs.declared.design.End.TheVariants as end
use Rattle.ten_core.specs.sub_nodes.specs.Cycles.{is_trap, rises}
use Rattle.ten_core.specs.sub_nodes.specs.Nodes.{Node, Run, Trap, Apply}
use Rattle.ten_shell.specs.declared.shell.Beat.TheVariants as beat
use Rattle.ten_shell.specs.declared.shell.Why.TheVariants as why
use Rattle.ten_shell.specs.Leaving.{why_of}
use Rattle.ten_shell.specs.Shells.{is_left}
pub use Rattle.vl_design.specs.vl_base.proofs.Booleans.{and_left as and-left, or_right_true as or-right, never_both as clash, and_right as and-right, or_left_true as or-left, or_other_true as other, or_then as or-then, or_else as or-else}
pub use Rattle.vl_design.specs.vl_base.proofs.Lists.{append_none_right as behind-nil, map_push as map-and}
pub use Rattle.ten_core.specs.sub_nodes.proofs.Shared.{trap-low}
pub use Rattle.vl_design.specs.vl_base.proofs.Numbers.{le_true as le-true}

pub trap-beat : (t r : Bool) → t ≡ true → beat.Trap ≡ cond t beat.Trap (cond r beat.TickEnd beat.Ran)
trap-beat true r e = refl
trap-beat false r e = let z : ⊥ = cc in absurd z

pub end-beat : (t r : Bool) → t ≡ false → r ≡ true → beat.TickEnd ≡ cond t beat.Trap (cond r beat.TickEnd beat.Ran)
end-beat true r e h = let z : ⊥ = cc in absurd z
end-beat false true e h = refl
end-beat false false e h = let z : ⊥ = cc in absurd z

pub ran-beat : (t r : Bool) → t ≡ false → r ≡ false → beat.Ran ≡ cond t beat.Trap (cond r beat.TickEnd beat.Ran)
ran-beat true r e h = let z : ⊥ = cc in absurd z
ran-beat false true e h = let z : ⊥ = cc in absurd z
ran-beat false false e h = refl

-- ---- boundaries

pub alive-there : (f r : Bool) → (not f && r) ≡ true → f ≡ false
alive-there true r e = let z : ⊥ = cc in absurd z
alive-there false r e = refl

pub is-there : (f r : Bool) → f ≡ false → r ≡ true → (not f && r) ≡ true
is-there true r e h = let z : ⊥ = cc in absurd z
is-there false r e h = h

pub is-elsewhere : (f r : Bool) → r ≡ false → (not f && r) ≡ false
is-elsewhere true r h = refl
is-elsewhere false r h = h

pub is-over : (f r : Bool) → f ≡ true → (not f && r) ≡ false
is-over true r h = refl
is-over false r h = let z : ⊥ = cc in absurd z

pub bound-then : (f r x d : Bool) → d ≡ f → x ≡ r → d ≡ false → x ≡ (not f && r)
bound-then true r x d e g h = let z : ⊥ = cc in absurd z
bound-then false r x d e g h = g

pub bound-else : (f r d : Bool) → d ≡ f → d ≡ true → not d ≡ (not f && r)
bound-else true r d e h = ap not h
bound-else false r d e h = let z : ⊥ = cc in absurd z

-- ---- what is left

pub left-by : {X : Type 0} (name : X → List ℕ) (left : List (List ℕ)) (o : Option X) → IfNone o (left ≡ []) → IfSome o (λ x. (others : List (List ℕ)) × (left ≡ name x ∷ others)) → is_some o ≡ is_left left
left-by name left None e h = sym (ap is_left e)
left-by name left (Some x) e h = sym (ap is_left h.1)

pub none-left : (left : List (List ℕ)) → is_left left ≡ false → left ≡ []
none-left [] e = refl
none-left (name ∷ names) e = let z : ⊥ = cc in absurd z

-- ---- resting

pub rests-over : (f r x d : Bool) → d ≡ f → d ≡ true → d ≡ (f || (r && not x))
rests-over true r x d e h = e
rests-over false r x d e h = let z : ⊥ = cc in absurd z

pub rests-up : (f r x y : Bool) → f ≡ false → r ≡ true → y ≡ ((not f && r) && x) → not y ≡ (f || (r && not x))
rests-up true r x y e h is = let z : ⊥ = cc in absurd z
rests-up false true x y e h is = ap not is
rests-up false false x y e h is = let z : ⊥ = cc in absurd z

pub rests-low : (f r x : Bool) → f ≡ false → r ≡ false → false ≡ (f || (r && not x))
rests-low true r x e h = let z : ⊥ = cc in absurd z
rests-low false true x e h = let z : ⊥ = cc in absurd z
rests-low false false x e h = refl

pub rests-both : (f r x : Bool) → (f || (r && not x)) ≡ true → (f || r) ≡ true
rests-both true r x e = refl
rests-both false true x e = refl
rests-both false false x e = e

pub rests-none : (f r x : Bool) → (f || (r && not x)) ≡ true → f ≡ false → x ≡ false
rests-none true r x e h = let z : ⊥ = cc in absurd z
rests-none false true true e h = let z : ⊥ = cc in absurd z
rests-none false true false e h = refl
rests-none false false x e h = let z : ⊥ = cc in absurd z

-- ---- results

pub ok-3 : {T E : Type 0} (P Q R S : T → Type 0) → ((t : T) → P t → Q t → R t → S t) → (r : Result T E) → IfOk r P → IfOk r Q → IfOk r R → IfOk r S
ok-3 P Q R S f (Ok t) p q u = f t p q u
ok-3 P Q R S f (Err e) p q u = tt

-- ---- tests joined

pub right-false : (x y : Bool) → (x && y) ≡ false → x ≡ true → y ≡ false
right-false true y e h = e
right-false false y e h = let z : ⊥ = cc in absurd z

pub le-false : (a b : ℕ) → b < a → nat_le a b ≡ false
le-false a b h = grind (arith, nat_tests)

-- ---- reasons

abbrev pub reason : Bool → Bool → Bool → Option End
reason f b s = cond f (Some end.Finished) (cond b (Some end.Budget) (cond s (Some end.Stopped) None))

pub has-finished : (f b s : Bool) → f ≡ true → Some end.Finished ≡ reason f b s
has-finished true b s e = refl
has-finished false b s e = let z : ⊥ = cc in absurd z

pub has-spent : (f b s : Bool) → f ≡ false → b ≡ true → Some end.Budget ≡ reason f b s
has-spent true b s e h = let z : ⊥ = cc in absurd z
has-spent false true s e h = refl
has-spent false false s e h = let z : ⊥ = cc in absurd z

pub has-rest : (f b s : Bool) → f ≡ false → b ≡ false → cond s (Some end.Stopped) None ≡ reason f b s
has-rest true b s e h = let z : ⊥ = cc in absurd z
has-rest false true s e h = let z : ⊥ = cc in absurd z
has-rest false false s e h = refl

-- what has no reason to end hasn't finished
pub unfinished : (stopped f b s : Bool) → cond stopped (Some end.Stopped) (reason f b s) ≡ None → f ≡ false
unfinished true f b s e = let z : ⊥ = cc in absurd z
unfinished false true b s e = let z : ⊥ = cc in absurd z
unfinished false false b s e = refl

-- ---- moves that stand

pub is-moved : (to : Option ℕ) (moved : Bool) → moved ≡ true → None ≡ why_of None to moved
is-moved to true e = all-moved to
  where
    all-moved : (to : Option ℕ) → None ≡ why_of None to true
    all-moved None = refl
    all-moved (Some fabric) = refl
is-moved to false e = let z : ⊥ = cc in absurd z

pub moves-to : (to : Option ℕ) (fabric : ℕ) (moved : Bool) → moved ≡ false → to ≡ Some fabric → Some (why.Move fabric) ≡ why_of None to moved
moves-to None fabric moved e h = let z : ⊥ = cc in absurd z
moves-to (Some g) fabric true e h = let z : ⊥ = cc in absurd z
moves-to (Some g) fabric false e h = ap (option_map why.Move) (sym h)

pub moves-nowhere : (to : Option ℕ) (moved : Bool) → to ≡ None → None ≡ why_of None to moved
moves-nowhere None moved e = refl
moves-nowhere (Some g) moved e = let z : ⊥ = cc in absurd z
