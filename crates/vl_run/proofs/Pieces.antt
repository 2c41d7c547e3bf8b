-- Formats byte by byte, and displays argument by argument.
use Rattle.std.proofs.Common.{◌≡◌, ◌≤◌, ◌<◌, refl, sym, ap, ◌∙◌, arith, ℕ, zero, suc, ◌+◌, ◌-◌, Bool, true, false, List, [], ◌∷◌, ◌++◌, append_assoc, append-nil, drop, length, get_or}
use Rattle.std.specs.Prelude.{Option, Some, None, if◌then◌else◌, ◌==◌, All}
use Rattle.std.specs.List.{AllByRecursion}
use Rattle.std.proofs.lemmas.Bool.Decides.{nat_tests}
use Rattle.std.proofs.lemmas.Grind.{common_steps}
use Rattle.std.proofs.lemmas.List.{at_drop_more, drop-drop, drop_all}
use Rattle.std.proofs.lemmas.List.Elements.{All-from_recursion, recursion_from_All, All-tail}
use Rattle.vl_base.specs.Display.{Format, format_of, lower_case}
use Rattle.vl_design.specs.Syntax.{Exp, Piece, Literal, Shown}
use Rattle.vl_design.specs.Formats.{Arg, Null, Str, Value, FormatPosition, InText, Percent, PercentZero, operand, with_text, behind_item, with_item, format_pieces, taken, pieces_from}
use Rattle.vl_design.specs.Sound.{IsSoundExp, IsSoundPiece}
use Rattle.vl_design.specs.declared.design.SysArg.{SysArg}
use Rattle.vl_design.specs.Tasks.{piece_text, pieces_text}
use Rattle.vl_design.specs.Value.{Sample}
use Rattle.vl_design.specs.Width.{Scope}
use Rattle.fmt_text.specs.Modes.{position_after}
use Rattle.vl_base.proofs.Numbers.{unequal_false as not-equal}
pub use Rattle.vl_design.proofs.Shared.{skip-some}
use Rattle.vl_design.proofs.Shared.{behind-item-is}

-- pieces show, take and need what two other lists do together
pub record Splits (scope : Scope) (s : Sample) (ps qs rs : List Piece) : Type 0 where
  pub text : pieces_text scope s ps ≡ pieces_text scope s qs ++ pieces_text scope s rs
  pub takes : taken ps ≡ taken qs + taken rs
  pub first : AllByRecursion (IsSoundPiece scope.names) ps → AllByRecursion (IsSoundPiece scope.names) qs
  pub rest : AllByRecursion (IsSoundPiece scope.names) ps → AllByRecursion (IsSoundPiece scope.names) rs

-- a format is read up to its byte i, and so many arguments are taken
pub record Formatted (scope : Scope) (s : Sample) (path text : List ℕ) (args : List Arg) (r : FormatPosition) (i count : ℕ) (old now : List ℕ) : Type 0 where
  pub shown : now ++ pieces_text scope s (format_pieces path r (drop i text) (drop count args)) ≡ old ++ pieces_text scope s (format_pieces path InText text args)
  pub takes : count + taken (format_pieces path r (drop i text) (drop count args)) ≡ taken (format_pieces path InText text args)
  pub sound : AllByRecursion (IsSoundPiece scope.names) (format_pieces path r (drop i text) (drop count args))
  pub small : count ≤ i

module _ (scope : Scope) (s : Sample) where
  splits-none : (ps : List Piece) → Splits scope s ps [] ps
  splits-none ps = record { text = refl; takes = omega arith; first = λ h. tt; rest = λ h. h }

  splits-text : (t : List ℕ) (ps : List Piece) → Splits scope s (with_text t ps) (with_text t []) ps
  splits-text t [] = record { text = sym (append-nil (t ++ [])); takes = refl; first = λ h. h; rest = λ h. tt }
  splits-text t (Literal u ∷ ps) = record {
    text = append_assoc t u (pieces_text scope s ps) ∙ ap (λ k. k ++ (u ++ pieces_text scope s ps)) (sym (append-nil t));
    takes = omega arith;
    first = λ h. (tt, tt);
    rest = λ h. (tt, h.1);
  }
  splits-text t (Shown format e ∷ ps) = record {
    text = ap (λ k. k ++ pieces_text scope s (Shown format e ∷ ps)) (sym (append-nil t));
    takes = omega arith;
    first = λ h. (tt, tt);
    rest = λ h. h.1;
  }

  splits-item : (o : Option Format) (e : Exp) (ps : List Piece) → Splits scope s (with_item o e ps) (with_item o e []) ps
  splits-item None e ps = splits-none ps
  splits-item (Some format) e ps = record {
    text = append_assoc-shown format e ps;
    takes = omega arith;
    first = λ h. (h.0, tt);
    rest = λ h. h.1;
  }
    where
      append_assoc-shown : (format : Format) (e : Exp) (ps : List Piece) → pieces_text scope s (Shown format e ∷ ps) ≡ pieces_text scope s (Shown format e ∷ []) ++ pieces_text scope s ps
      append_assoc-shown format e ps = sym (append_assoc _ [] (pieces_text scope s ps))

  module _ (path : List ℕ) where
    splits-taken : (o : Option Format) (cs : List ℕ) (args : List Arg)
        → Splits scope s (with_item o (operand args) (format_pieces path InText cs (behind_item o args))) (with_item o (operand args) []) (format_pieces path InText cs (drop (taken (with_item o (operand args) [])) args))
    splits-taken o cs args = rw (behind-item-is o (operand args) args) (splits-item o (operand args) (format_pieces path InText cs (drop (taken (with_item o (operand args) [])) args)))

    -- the first byte of a format, and those behind it
    pub format-more : (r : FormatPosition) (c : ℕ) (cs : List ℕ) (args : List Arg)
        → Splits scope s (format_pieces path r (c ∷ cs) args) (format_pieces path r (c ∷ []) args) (format_pieces path (position_after r c) cs (drop (taken (format_pieces path r (c ∷ []) args)) args))
    format-more InText c cs args = in-text (c == 37)
      where
        in-text : (b : Bool) → Splits scope s
            (if b then format_pieces path Percent cs args else with_text (c ∷ []) (format_pieces path InText cs args))
            (if b then [] else with_text (c ∷ []) [])
            (format_pieces path (if b then Percent else InText) cs (drop (taken (if b then [] else with_text (c ∷ []) [])) args))
        in-text true = splits-none (format_pieces path Percent cs args)
        in-text false = splits-text (c ∷ []) (format_pieces path InText cs args)
    format-more Percent c cs args = behind-percent (c == 48) (c == 37) (lower_case c == 109)
      where
        behind-percent : (a b m : Bool) → let one = if a then [] else if b then with_text (37 ∷ []) [] else if m then with_text path [] else with_item (format_of c false) (operand args) [] in
            Splits scope s
            (if a then format_pieces path PercentZero cs args
            else if b then with_text (37 ∷ []) (format_pieces path InText cs args)
            else if m then with_text path (format_pieces path InText cs args)
            else with_item (format_of c false) (operand args) (format_pieces path InText cs (behind_item (format_of c false) args)))
            one
            (format_pieces path (if a then PercentZero else InText) cs (drop (taken one) args))
        behind-percent true b m = splits-none (format_pieces path PercentZero cs args)
        behind-percent false true m = splits-text (37 ∷ []) (format_pieces path InText cs args)
        behind-percent false false true = splits-text path (format_pieces path InText cs args)
        behind-percent false false false = splits-taken (format_of c false) cs args
    format-more PercentZero c cs args = splits-taken (format_of c true) cs args

    -- ---- a format that is read up to a byte

    module _ (text : List ℕ) (args : List Arg) (old : List ℕ) where
      pub formatted-none : All (IsSoundPiece scope.names) (format_pieces path InText text args) → Formatted scope s path text args InText 0 0 old old
      formatted-none h = record { shown = refl; takes = omega arith; sound = recursion_from_All (IsSoundPiece scope.names) _ h; small = omega arith }

      module _ (r : FormatPosition) (i count byte : ℕ) (now : List ℕ) (l : i < length text) (b : byte ≡ get_or text i 0) (h : Formatted scope s path text args r i count old now) where
        next-is : drop i text ≡ byte ∷ drop (i + 1) text
        next-is = at_drop_more (λ ys. ys) text i 0 l ∙ ap (λ y. y ∷ drop (i + 1) text) (sym b)

        split : Splits scope s (format_pieces path r (byte ∷ drop (i + 1) text) (drop count args)) (format_pieces path r (byte ∷ []) (drop count args))
            (format_pieces path (position_after r byte) (drop (i + 1) text) (drop (taken (format_pieces path r (byte ∷ []) (drop count args))) (drop count args)))
        split = format-more r byte (drop (i + 1) text) (drop count args)

        pub byte-sound : All (IsSoundPiece scope.names) (format_pieces path r (byte ∷ []) (drop count args))
        byte-sound = All-from_recursion (IsSoundPiece scope.names) _ (split.first (rw next-is at h.sound))

        pub formatted-on : (r' : FormatPosition) (n : ℕ) (new : List ℕ) → r' ≡ position_after r byte → n ≡ taken (format_pieces path r (byte ∷ []) (drop count args)) → n ≤ 1
            → new ≡ now ++ pieces_text scope s (format_pieces path r (byte ∷ []) (drop count args)) → Formatted scope s path text args r' (i + 1) (count + n) old new
        formatted-on r' n new p t m e =
            let shown = rw next-is at h.shown in
            let takes = rw next-is at h.takes in
            let behind : drop (taken (format_pieces path r (byte ∷ []) (drop count args))) (drop count args) ≡ drop (count + n) args =
            ap (λ k. drop k (drop count args)) (sym t) ∙ drop-drop n count args in
            let texts = rw behind at split.text in
            let counts = rw behind at split.takes in
            let rest = rw behind at split.rest (rw next-is at h.sound) in
            rw p
            record {
              shown = ap (λ k. k ++ pieces_text scope s (format_pieces path (position_after r byte) (drop (i + 1) text) (drop (count + n) args))) e ∙ (append_assoc now _ _ ∙ (ap (λ k. now ++ k) (sym texts) ∙ shown));
              takes = omega (arith, t, takes, counts);
              sound = rest;
              small = let k = h.small in omega (arith, k, m);
            }

      pub formatted-all : (r : FormatPosition) (i count : ℕ) (now : List ℕ) → length text ≤ i → Formatted scope s path text args r i count old now
          → (now ≡ old ++ pieces_text scope s (format_pieces path InText text args)) × (count ≡ taken (format_pieces path InText text args))
      formatted-all r i count now l h =
          let none : format_pieces path r (drop i text) (drop count args) ≡ [] = ap (λ cs. format_pieces path r cs (drop count args)) (drop_all i text l) ∙ empty r (drop count args) in
          let shown = rw none at h.shown in
          let takes = rw none at h.takes in
          (sym (append-nil now) ∙ shown, let z : count + 0 ≡ count = omega arith in sym z ∙ takes)
        where
          empty : (r : FormatPosition) (args : List Arg) → format_pieces path r [] args ≡ []
          empty InText args = refl
          empty Percent args = refl
          empty PercentZero args = refl

    -- ---- an item behind a `%`

    pub percent-item : (c : ℕ) (args : List Arg) → ¬ (c ≡ 48) → ¬ (c ≡ 37) → false ≡ (lower_case c == 109)
        → All (IsSoundPiece scope.names) (format_pieces path Percent (c ∷ []) args) → All (IsSoundPiece scope.names) (with_item (format_of c false) (operand args) [])
    percent-item c args i j k h = let a = not-equal c 48 i in let b = not-equal c 37 j in rw (a, b, ← k) at h

    -- ---- arguments

    text-append : (ps qs : List Piece) → pieces_text scope s (ps ++ qs) ≡ pieces_text scope s ps ++ pieces_text scope s qs
    text-append [] qs = refl
    text-append (p ∷ ps) qs = ap (λ k. piece_text scope s p ++ k) (text-append ps qs)
        ∙ sym (append_assoc (piece_text scope s p) (pieces_text scope s ps) (pieces_text scope s qs))

    left : (ps qs : List Piece) → AllByRecursion (IsSoundPiece scope.names) (ps ++ qs) → AllByRecursion (IsSoundPiece scope.names) ps
    left [] qs h = tt
    left (p ∷ ps) qs h = (h.0, left ps qs h.1)

    right : (ps qs : List Piece) → AllByRecursion (IsSoundPiece scope.names) (ps ++ qs) → AllByRecursion (IsSoundPiece scope.names) qs
    right [] qs h = h
    right (p ∷ ps) qs h = right ps qs h.1

    module _ (text : List ℕ) (args : List Arg) (h : All (IsSoundPiece scope.names) (pieces_from path 0 (Str text ∷ args))) where
      whole : AllByRecursion (IsSoundPiece scope.names) (format_pieces path InText text args ++ pieces_from path (taken (format_pieces path InText text args)) args)
      whole = recursion_from_All (IsSoundPiece scope.names) _ h

      pub text-first : All (IsSoundPiece scope.names) (format_pieces path InText text args)
      text-first = All-from_recursion (IsSoundPiece scope.names) _ (left _ _ whole)

      pub text-rest : All (IsSoundPiece scope.names) (pieces_from path (taken (format_pieces path InText text args)) args)
      text-rest = All-from_recursion (IsSoundPiece scope.names) _ (right _ _ whole)

      pub text-shown : (old new : List ℕ) → new ≡ old ++ pieces_text scope s (format_pieces path InText text args)
          → new ++ pieces_text scope s (pieces_from path (taken (format_pieces path InText text args)) args) ≡ old ++ pieces_text scope s (pieces_from path 0 (Str text ∷ args))
      text-shown old new e = rw e (append_assoc old _ _ ∙ ap (λ k. old ++ k) (sym (text-append (format_pieces path InText text args) (pieces_from path (taken (format_pieces path InText text args)) args))))

    pub null-rest : (args : List Arg) → All (IsSoundPiece scope.names) (pieces_from path 0 (Null ∷ args)) → All (IsSoundPiece scope.names) (pieces_from path 0 args)
    null-rest args h = All-tail (IsSoundPiece scope.names) _ _ h

    pub value-rest : (e : Exp) (args : List Arg) → All (IsSoundPiece scope.names) (pieces_from path 0 (Value e ∷ args)) → All (IsSoundPiece scope.names) (pieces_from path 0 args)
    value-rest e args h = All-tail (IsSoundPiece scope.names) _ _ h

    pub value-first : (e : Exp) (args : List Arg) → All (IsSoundPiece scope.names) (pieces_from path 0 (Value e ∷ args)) → IsSoundExp scope.names e
    value-first e args h =
        let k : IsSoundExp scope.names e × AllByRecursion (IsSoundPiece scope.names) (pieces_from path 0 args) = recursion_from_All (IsSoundPiece scope.names) (pieces_from path 0 (Value e ∷ args)) h in
        k.0

pub rest-at : (xs : List SysArg) (i : ℕ) (x : SysArg) → i < length xs → x ≡ get_or xs i x → drop i xs ≡ x ∷ drop (i + 1) xs
rest-at xs i x l e = at_drop_more (λ ys. ys) xs i x l ∙ ap (λ y. y ∷ drop (i + 1) xs) (sym e)

pub ruleset skipping = (common_steps, skip-some)
