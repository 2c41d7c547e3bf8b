-- What the pieces of a display count, argument by argument, whatever the instance's path is.
use Rattle.std.proofs.Common.{◌≡◌, refl, sym, ap, ◌∙◌, arith, ℕ, zero, suc, ◌+◌, ◌*◌, Bool, true, false, List, [], ◌∷◌, ◌++◌}
use Rattle.std.specs.Prelude.{Option, Some, None, if◌then◌else◌, ◌==◌}
use Rattle.vl_base.specs.Display.{Format, format_of, lower_case}
use Rattle.vl_design.specs.Syntax.{Exp, Piece, Literal, Shown}
use Rattle.vl_design.specs.Formats.{Arg, Null, Str, Value, FormatPosition, InText, Percent, PercentZero, operand, with_text, behind_item, with_item, format_pieces, taken, pieces_from}
use Rattle.vl_loops.specs.Limits.{Counted, exp_count, pieces_count}
use Rattle.vl_design.specs.Formats.{items_in}
use Rattle.vl_limits.specs.Displays.{CountsShown, operands_by, shown_by, shown_count}
use Rattle.vl_design.proofs.Pieces.{taken-text, behind-none}

-- how many pieces take depends neither on what there is to take nor on the path, and they count what those arguments count
pub record Shows (each : Exp → ℕ) (all : List Piece → ℕ) (ps qs : List Piece) (args : List Arg) : Type 0 where
  pub takes : taken ps ≡ taken qs
  pub counts : all ps ≡ operands_by each (taken qs) args

module _ (each : Exp → ℕ) (all : List Piece → ℕ) (c : CountsShown each all) where
  count-text : (t : List ℕ) (ps : List Piece) → all (with_text t ps) ≡ all ps
  count-text t [] = c.text t []
  count-text t (Literal u ∷ ps) = c.text (t ++ u) ps ∙ sym (c.text u ps)
  count-text t (Shown f e ∷ ps) = c.text t (Shown f e ∷ ps)

  shows-text : (t u : List ℕ) (ps qs : List Piece) (args : List Arg) → Shows each all ps qs args → Shows each all (with_text t ps) (with_text u qs) args
  shows-text t u ps qs args h = record {
    takes = taken-text t ps ∙ (h.takes ∙ sym (taken-text u qs));
    counts = count-text t ps ∙ (h.counts ∙ ap (λ n. operands_by each n args) (sym (taken-text u qs)));
  }

  shows-if : (b : Bool) (ps qs ps' qs' : List Piece) (args : List Arg) → Shows each all ps qs args → Shows each all ps' qs' args → Shows each all (if b then ps else ps') (if b then qs else qs') args
  shows-if true ps qs ps' qs' args h k = h
  shows-if false ps qs ps' qs' args h k = k

  shows-item : (o : Option Format) (e : Exp) (ps qs : List Piece) (args : List Arg) → Shows each all ps qs (behind_item o args) → Shows each all (with_item o (operand args) ps) (with_item o e qs) args
  shows-item None e ps qs args h = h
  shows-item (Some f) e ps qs args h = record {
    takes = ap (λ n. 1 + n) h.takes;
    counts =
        let i : 1 + taken qs ≡ suc (taken qs) = omega arith in
        c.item f (operand args) ps ∙ (ap (λ n. each (operand args) + n) h.counts ∙ ap (λ n. operands_by each n args) (sym i));
  }

  format-shows : (path : List ℕ) (r : FormatPosition) (text : List ℕ) (args : List Arg) → Shows each all (format_pieces path r text args) (format_pieces [] r text []) args
  format-shows path InText [] args = record { takes = refl; counts = c.none }
  format-shows path Percent [] args = record { takes = refl; counts = c.none }
  format-shows path PercentZero [] args = record { takes = refl; counts = c.none }
  format-shows path InText (b ∷ cs) args =
      shows-if (b == 37) _ _ _ _ args (format-shows path Percent cs args) (shows-text (b ∷ []) (b ∷ []) _ _ args (format-shows path InText cs args))
  format-shows path Percent (b ∷ cs) args =
      shows-if (b == 48) _ _ _ _ args (format-shows path PercentZero cs args)
      (shows-if (b == 37) _ _ _ _ args (shows-text (37 ∷ []) (37 ∷ []) _ _ args (format-shows path InText cs args))
      (shows-if (lower_case b == 109) _ _ _ _ args (shows-text path [] _ _ args (format-shows path InText cs args))
      (rw (behind-none (format_of b false)) (shows-item (format_of b false) (operand []) _ _ args (format-shows path InText cs (behind_item (format_of b false) args))))))
  format-shows path PercentZero (b ∷ cs) args = rw (behind-none (format_of b true)) (shows-item (format_of b true) (operand []) _ _ args (format-shows path InText cs (behind_item (format_of b true) args)))

  count-append : (ps qs : List Piece) → all (ps ++ qs) ≡ all ps + all qs
  count-append [] qs = let h = c.none in omega (arith, h)
  count-append (Literal t ∷ ps) qs = c.text t (ps ++ qs) ∙ (count-append ps qs ∙ ap (λ n. n + all qs) (sym (c.text t ps)))
  count-append (Shown f e ∷ ps) qs =
      let h = count-append ps qs in
      let i = c.item f e (ps ++ qs) in
      let j = c.item f e ps in
      omega (arith, h, i, j)

  -- ---- one argument

  pub text-shows : (path text : List ℕ) (args : List Arg) → all (pieces_from path 0 (Str text ∷ args)) ≡ operands_by each (items_in text) args + all (pieces_from path (items_in text) args)
  text-shows path text args =
      let h = format-shows path InText text args in
      let ps = format_pieces path InText text args in
      let k : all (ps ++ pieces_from path (taken ps) args) ≡ all ps + all (pieces_from path (taken ps) args) = count-append ps (pieces_from path (taken ps) args) in
      let i : all (pieces_from path (taken ps) args) ≡ all (pieces_from path (items_in text) args) = ap (λ n. all (pieces_from path n args)) h.takes in
      let j : all ps ≡ operands_by each (items_in text) args = h.counts in
      omega (arith, k, i, j)

  pub text-shown : (text : List ℕ) (args : List Arg) → shown_by each all 0 (Str text ∷ args) ≡ shown_by each all (items_in text) args
  text-shown text args = let h = text-shows [] text args in omega (arith, h)

  pub none-shown : (node : ℕ) → each (operand []) ≡ node → (n : ℕ) → shown_by each all n [] ≡ n * node
  none-shown node e n = let h = missing n in let k = none n in omega (arith, h, k)
    where
      missing : (m : ℕ) → operands_by each m [] ≡ m * node
      missing zero = omega arith
      missing (suc m) = let h = missing m in grind (arith, h, e)

      none : (m : ℕ) → all (pieces_from [] m []) ≡ 0
      none m = c.none

  -- ---- any path

  pub any-path : (path : List ℕ) (n : ℕ) (args : List Arg) → all (pieces_from path n args) ≡ all (pieces_from [] n args)
  any-path path n [] = refl
  any-path path (suc n) (a ∷ args) = any-path path n args
  any-path path zero (Null ∷ args) = c.text _ _ ∙ (any-path path zero args ∙ sym (c.text _ _))
  any-path path zero (Str text ∷ args) = text-shows path text args ∙ (ap (λ n. operands_by each (items_in text) args + n) (any-path path (items_in text) args) ∙ sym (text-shows [] text args))
  any-path path zero (Value e ∷ args) = c.item _ e _ ∙ (ap (λ n. each e + n) (any-path path zero args) ∙ sym (c.item _ e _))

-- ---- what counts for the limits

module _ (c : Counted) where
  counts-shown : CountsShown (exp_count c) (pieces_count c)
  counts-shown = record { none = refl; text = λ t ps. refl; item = λ f e ps. refl }

  pub shown-text : (text : List ℕ) (args : List Arg) → shown_count c 0 (Str text ∷ args) ≡ shown_count c (items_in text) args
  shown-text text args = text-shown (exp_count c) (pieces_count c) counts-shown text args

  pub shown-none : (n : ℕ) → shown_count c n [] ≡ n * c.node
  shown-none n = none-shown (exp_count c) (pieces_count c) counts-shown c.node refl n
