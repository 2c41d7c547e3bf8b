-- What expressions give that do not read the answer before them, or where it is known.
use Rattle.std.proofs.Common.{◌≡◌, ℕ, Bool, true, false, List, [], ◌∷◌, refl}
use Rattle.std.specs.Prelude.{⊤, ◌||◌}
use Rattle.vl_design.specs.declared.design.Form.{Form}
use Rattle.vl_design.specs.Syntax.{Exp, Num, Label, Sig, Word, Pick, Slice, Un, Bin, Cond, Cat, Rep, Cast, Call, Time, LastAnswer, Exps, NoExps, MoreExps, Target, Whole, WordAt, PickAt, SliceAt, Several, Targets, NoTargets, MoreTargets, Piece, Literal, Shown}
use Rattle.vl_design.specs.Width.{Scope, form, assigned}
use Rattle.vl_design.specs.Value.{Sample, value, side_by_side, arguments}
use Rattle.vl_design.specs.Targets.{spots, all_spots, assignment, target_width}
use Rattle.vl_design.specs.Tasks.{pieces_text, descriptor_of}
use Rattle.vl_design.specs.Exec.{label_matches, some_match}
use Rattle.vl_design.specs.Nodes.{has, some_have, target_has, targets_have, pieces_have}
use Rattle.vl_design.proofs.Unread.{or_false}
use Rattle.vl_sites.specs.Answers.{is_answer}

abbrev pub reads : Exp → Bool
reads e = has is_answer e

abbrev pub some_read : Exps → Bool
some_read es = some_have is_answer es

abbrev pub target_reads : Target → Bool
target_reads x = target_has is_answer x

abbrev pub targets_read : Targets → Bool
targets_read xs = targets_have is_answer xs

-- the answer may be read: it is known, or it isn't read
abbrev pub May : Bool → Bool → Type 0
May true reading = ⊤
May false reading = reading ≡ false

-- two answers are one, where they are known
abbrev pub Same : Bool → ℕ → ℕ → Type 0
Same true x y = x ≡ y
Same false x y = ⊤

pub split : (w a b : Bool) → May w (a || b) → May w a × May w b
split true a b h = (tt, tt)
split false a b h = or_false a b h

answer_same : (w : Bool) (x y : ℕ) → Same w x y → May w true → x ≡ y
answer_same true x y e h = e
answer_same false x y e h = let z : ⊥ = cc in absurd z

module _ (scope : Scope) (values : List (List ℕ)) (time x y : ℕ) (w : Bool) (known : Same w x y) where
  abbrev s : Sample
  s = record { values = values; time = time; answer = x }

  abbrev t : Sample
  t = record { values = values; time = time; answer = y }

  mutual
    pub value_same : (e : Exp) → May w (reads e) → (c : Form) → value scope s e c ≡ value scope t e c
    value_same (Num v n signed) h c = refl
    value_same (Label v care n signed) h c = refl
    value_same (Sig k) h c = refl
    value_same (Word m a) h c = rw (value_same a h (form scope.names a)) refl
    value_same (Pick b i from n) h c = let g = split w (reads b) (reads i) h in rw (value_same b g.0 (form scope.names b), value_same i g.1 (form scope.names i)) refl
    value_same (Slice b low n) h c = rw (value_same b h (form scope.names b)) refl
    value_same (Un op a) h c = rw (value_same a h _) refl
    value_same (Bin op a b) h c = let g = split w (reads a) (reads b) h in rw (value_same a g.0 _, value_same b g.1 _) refl
    value_same (Cond u a b) h c =
        let g = split w (reads u) (reads a || reads b) h in
        let f = split w (reads a) (reads b) g.1 in
        rw (value_same u g.0 (form scope.names u), value_same a f.0 c, value_same b f.1 c) refl
    value_same (Cat es) h c = side_same es h
    value_same (Rep n es) h c = rw (side_same es h) refl
    value_same (Cast signed a) h c = rw (value_same a h (form scope.names a)) refl
    value_same (Call f es) h c = rw (arguments_same es h _) refl
    value_same Time h c = refl
    value_same LastAnswer h c = rw (answer_same w x y known h) refl

    side_same : (es : Exps) → May w (some_read es) → side_by_side scope s es ≡ side_by_side scope t es
    side_same NoExps h = refl
    side_same (MoreExps e es) h = let g = split w (reads e) (some_read es) h in rw (value_same e g.0 (form scope.names e), side_same es g.1) refl

    arguments_same : (es : Exps) → May w (some_read es) → (ws : List ℕ) → arguments scope s es ws ≡ arguments scope t es ws
    arguments_same NoExps h ws = refl
    arguments_same (MoreExps e es) h [] = refl
    arguments_same (MoreExps e es) h (n ∷ ns) = let g = split w (reads e) (some_read es) h in rw (value_same e g.0 _, arguments_same es g.1 ns) refl

  mutual
    spots_same : (u : Target) → May w (target_reads u) → spots scope s u ≡ spots scope t u
    spots_same (Whole k) h = refl
    spots_same (WordAt m a) h = rw (value_same a h (form scope.names a)) refl
    spots_same (PickAt b i from n) h = let g = split w (target_reads b) (reads i) h in rw (spots_same b g.0, value_same i g.1 (form scope.names i)) refl
    spots_same (SliceAt b low n) h = rw (spots_same b h) refl
    spots_same (Several us) h = all_spots_same us h

    all_spots_same : (us : Targets) → May w (targets_read us) → all_spots scope s us ≡ all_spots scope t us
    all_spots_same NoTargets h = refl
    all_spots_same (MoreTargets u us) h = let g = split w (target_reads u) (targets_read us) h in rw (spots_same u g.0, all_spots_same us g.1) refl

  pub assignment_same : (u : Target) (e : Exp) → May w (target_reads u || reads e) → assignment scope s u e ≡ assignment scope t u e
  assignment_same u e h =
      let g = split w (target_reads u) (reads e) h in
      rw (spots_same u g.0, value_same e g.1 (assigned (target_width scope.names u) (form scope.names e))) refl

  label_same : (c : Form) (v : ℕ) (e : Exp) → May w (reads e) → label_matches scope s c v e ≡ label_matches scope t c v e
  label_same c v (Label l care n signed) h = refl
  label_same c v e h = rw (value_same e h c) refl

  pub match_same : (c : Form) (v : ℕ) (es : Exps) → May w (some_read es) → some_match scope s c v es ≡ some_match scope t c v es
  match_same c v NoExps h = refl
  match_same c v (MoreExps e es) h = let g = split w (reads e) (some_read es) h in rw (label_same c v e g.0, match_same c v es g.1) refl

  pub text_same : (ps : List Piece) → May w (pieces_have is_answer ps) → pieces_text scope s ps ≡ pieces_text scope t ps
  text_same [] h = refl
  text_same (Literal text ∷ ps) h = rw (text_same ps h) refl
  text_same (Shown format e ∷ ps) h =
      let g = split w (reads e) (pieces_have is_answer ps) h in
      rw (value_same e g.0 (form scope.names e), text_same ps g.1) refl

  pub descriptor_same : (fd : Exp) → May w (reads fd) → descriptor_of scope s fd ≡ descriptor_of scope t fd
  descriptor_same fd h = rw (value_same fd h (form scope.names fd)) refl
