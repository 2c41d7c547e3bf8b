-- Formats byte by byte, and displays argument by argument.
use Rattle.std.proofs.Common.{◌≡◌, ◌≤◌, ◌<◌, refl, sym, ap, ◌∙◌, arith, ℕ, zero, suc, ◌+◌, ◌-◌, Bool, true, false, List, [], ◌∷◌, ◌++◌, append_assoc, append-nil, drop, length, length-append, get_or}
use Rattle.std.specs.Prelude.{Option, Some, None, if◌then◌else◌, ◌==◌}
use Rattle.std.proofs.lemmas.List.{at_drop_more, drop-drop, drop_all}
use Rattle.vl_base.specs.Display.{Format, format_of, lower_case}
use Rattle.vl_design.specs.Syntax.{Exp, Piece, Literal, Shown}
use Rattle.vl_design.specs.Formats.{Arg, FormatPosition, InText, Percent, PercentZero, operand, with_text, behind_item, with_item, format_pieces, taken, pieces_from}
use Rattle.vl_design.specs.Width.{Names}
use Rattle.fmt_text.specs.Modes.{position_after}
use Rattle.ten_form.specs.Asked.{shown}
use Rattle.cell_calls.specs.Displays.{Alike}
use Rattle.ten_form.specs.Traps.{shown_text}
use Rattle.cell_calls.proofs.Extending.{shown-append, taken-shown, line-append}
pub use Rattle.vl_design.proofs.Shared.{skip-some}
use Rattle.vl_design.proofs.Shared.{behind-item-is}

module _ (names : Names) where
  -- ---- pieces that print alike

  pub alike-same : (ps : List Piece) → Alike names ps ps
  alike-same ps = record { text = λ vs. refl; shown = refl }

  pub alike-then : (ps qs rs : List Piece) → Alike names ps qs → Alike names qs rs → Alike names ps rs
  alike-then ps qs rs h k = record { text = λ vs. h.text vs ∙ k.text vs; shown = h.shown ∙ k.shown }

  pub alike-behind : (ds ps qs : List Piece) → Alike names ps qs → Alike names (ds ++ ps) (ds ++ qs)
  alike-behind ds ps qs h = record {
    text = λ vs. line-append names ds ps vs ∙ (ap (λ z. shown_text names ds vs ++ z) (h.text (drop (length (shown ds)) vs)) ∙ sym (line-append names ds qs vs));
    shown = shown-append ds ps ∙ (ap (λ z. shown ds ++ z) h.shown ∙ sym (shown-append ds qs));
  }

  -- ---- a format's first byte, and those behind it

  alike-text : (t : List ℕ) (ps : List Piece) → Alike names (with_text t ps) (with_text t [] ++ ps)
  alike-text t [] = alike-same (with_text t [])
  alike-text t (Literal u ∷ ps) = record { text = λ vs. append_assoc t u (shown_text names ps vs); shown = refl }
  alike-text t (Shown format e ∷ ps) = alike-same (Literal t ∷ Shown format e ∷ ps)

  alike-item : (o : Option Format) (e : Exp) (ps : List Piece) → Alike names (with_item o e ps) (with_item o e [] ++ ps)
  alike-item None e ps = alike-same ps
  alike-item (Some format) e ps = alike-same (Shown format e ∷ ps)

  module _ (path : List ℕ) where
    alike-taken : (o : Option Format) (cs : List ℕ) (args : List Arg)
        → Alike names (with_item o (operand args) (format_pieces path InText cs (behind_item o args))) (with_item o (operand args) [] ++ format_pieces path InText cs (drop (taken (with_item o (operand args) [])) args))
    alike-taken o cs args = rw (behind-item-is o (operand args) args) (alike-item o (operand args) (format_pieces path InText cs (drop (taken (with_item o (operand args) [])) args)))

    format-more : (r : FormatPosition) (c : ℕ) (cs : List ℕ) (args : List Arg)
        → Alike names (format_pieces path r (c ∷ cs) args) (format_pieces path r (c ∷ []) args ++ format_pieces path (position_after r c) cs (drop (taken (format_pieces path r (c ∷ []) args)) args))
    format-more InText c cs args = in-text (c == 37)
      where
        in-text : (b : Bool) → Alike names
            (if b then format_pieces path Percent cs args else with_text (c ∷ []) (format_pieces path InText cs args))
            ((if b then [] else with_text (c ∷ []) []) ++ format_pieces path (if b then Percent else InText) cs (drop (taken (if b then [] else with_text (c ∷ []) [])) args))
        in-text true = alike-same (format_pieces path Percent cs args)
        in-text false = alike-text (c ∷ []) (format_pieces path InText cs args)
    format-more Percent c cs args = behind-percent (c == 48) (c == 37) (lower_case c == 109)
      where
        behind-percent : (a b m : Bool) → let one = if a then [] else if b then with_text (37 ∷ []) [] else if m then with_text path [] else with_item (format_of c false) (operand args) [] in
            Alike names
            (if a then format_pieces path PercentZero cs args
            else if b then with_text (37 ∷ []) (format_pieces path InText cs args)
            else if m then with_text path (format_pieces path InText cs args)
            else with_item (format_of c false) (operand args) (format_pieces path InText cs (behind_item (format_of c false) args)))
            (one ++ format_pieces path (if a then PercentZero else InText) cs (drop (taken one) args))
        behind-percent true b m = alike-same (format_pieces path PercentZero cs args)
        behind-percent false true m = alike-text (37 ∷ []) (format_pieces path InText cs args)
        behind-percent false false true = alike-text path (format_pieces path InText cs args)
        behind-percent false false false = alike-taken (format_of c false) cs args
    format-more PercentZero c cs args = alike-taken (format_of c true) cs args

    -- a format that is read up to its byte i, where so many arguments are taken
    pub record Reads (text : List ℕ) (args : List Arg) (r : FormatPosition) (i count : ℕ) (done : List Piece) : Type 0 where
      pub alike : Alike names (format_pieces path InText text args) (done ++ format_pieces path r (drop i text) (drop count args))
      pub takes : count ≡ taken done
      pub small : count ≤ i

    pub reads-none : (text : List ℕ) (args : List Arg) → Reads text args InText 0 0 []
    reads-none text args = record { alike = alike-same (format_pieces path InText text args); takes = refl; small = omega arith }

    module _ (text : List ℕ) (args : List Arg) (r : FormatPosition) (i count byte : ℕ) (done : List Piece) (l : i < length text) (b : byte ≡ get_or text i 0) (h : Reads text args r i count done) where
      next-is : drop i text ≡ byte ∷ drop (i + 1) text
      next-is = at_drop_more (λ ys. ys) text i 0 l ∙ ap (λ y. y ∷ drop (i + 1) text) (sym b)

      abbrev one : List Piece
      one = format_pieces path r (byte ∷ []) (drop count args)

      more : Alike names (format_pieces path r (drop i text) (drop count args)) (one ++ format_pieces path (position_after r byte) (drop (i + 1) text) (drop (taken one) (drop count args)))
      more = rw next-is (format-more r byte (drop (i + 1) text) (drop count args))

      -- what is left begins with the pieces of the byte
      pub byte-shown : shown (format_pieces path r (drop i text) (drop count args)) ≡ shown one ++ shown (format_pieces path (position_after r byte) (drop (i + 1) text) (drop (taken one) (drop count args)))
      byte-shown = more.shown ∙ shown-append one _

      pub reads-more : (r' : FormatPosition) (n : ℕ) → r' ≡ position_after r byte → n ≡ taken one → n ≤ 1 → Reads text args r' (i + 1) (count + n) (done ++ one)
      reads-more r' n p t m =
          let behind : drop (taken one) (drop count args) ≡ drop (count + n) args = ap (λ k. drop k (drop count args)) (sym t) ∙ drop-drop n count args in
          let rest = format_pieces path r' (drop (i + 1) text) (drop (count + n) args) in
          let next : Alike names (format_pieces path r (drop i text) (drop count args)) (one ++ rest) = rw (p, ← behind) more in
          let assoc : done ++ (one ++ rest) ≡ (done ++ one) ++ rest = sym (append_assoc done one rest) in
          record {
            alike = rw (← assoc) (alike-then (format_pieces path InText text args) _ (done ++ (one ++ rest)) h.alike (alike-behind done _ (one ++ rest) next));
            takes =
                let a = h.takes in
                let b = taken-shown (done ++ one) in
                let c : length (shown (done ++ one)) ≡ length (shown done) + length (shown one) = ap (λ (z : List Exp). length z) (shown-append done one) ∙ length-append (shown done) (shown one) in
                let d = taken-shown done in
                let e = taken-shown one in
                omega (arith, t, a, b, c, d, e);
            small = let k = h.small in omega (arith, k, m);
          }

    pub reads-all : (text : List ℕ) (args : List Arg) (r : FormatPosition) (i count : ℕ) (done : List Piece) → length text ≤ i → Reads text args r i count done
        → Alike names (format_pieces path InText text args) done × (count ≡ taken (format_pieces path InText text args))
    reads-all text args r i count done l h =
        let none : format_pieces path r (drop i text) (drop count args) ≡ [] = ap (λ cs. format_pieces path r cs (drop count args)) (drop_all i text l) ∙ empty r (drop count args) in
        let same : done ++ format_pieces path r (drop i text) (drop count args) ≡ done = ap (λ z. done ++ z) none ∙ append-nil done in
        let alike : Alike names (format_pieces path InText text args) done = rw same at h.alike in
        let a = taken-shown (format_pieces path InText text args) in
        let b = taken-shown done in
        let c : length (shown (format_pieces path InText text args)) ≡ length (shown done) = ap (λ (z : List Exp). length z) alike.shown in
        let d = h.takes in
        (alike, omega (arith, a, b, c, d))
      where
        empty : (r : FormatPosition) (args : List Arg) → format_pieces path r [] args ≡ []
        empty InText args = refl
        empty Percent args = refl
        empty PercentZero args = refl

-- ---- arguments
