-- What the nets of processes drive and read is what the processes do.
use Rattle.std.proofs.Common.{◌≡◌, ℕ, zero, suc, ◌+◌, ◌<◌, ◌≤◌, Bool, false, List, [], ◌∷◌, ◌++◌, map, length, take, get_or, refl, sym, ap, ◌∙◌, subst, arith}
use Rattle.std.specs.Prelude.{◌&&◌, All, slice_get, slice_index_or}
use Rattle.std.proofs.lemmas.List.{take_more, take_all, map-append}
use Rattle.std.proofs.lemmas.List.Elements.{All-nil, All-cons}
use Rattle.vl_bits.specs.vl_design.specs.declared.design.ProcKind.TheVariants.{Init}
use Rattle.vl_bits.specs.vl_design.specs.declared.design.Process.{Process}
use Rattle.vl_bits.specs.vl_design.specs.Syntax.{Proc, Nop}
use Rattle.vl_bits.specs.vl_design.specs.Trees.{proc_of}
use Rattle.vl_bits.specs.vl_design.specs.Width.{Names}
use Rattle.vl_bits.specs.vl_design.specs.Queue.{is_comb}
use Rattle.vl_bits.specs.vl_paths.specs.Bits.{Bit}
use Rattle.vl_bits.specs.vl_paths.specs.Paths.{early}
use Rattle.vl_bits.specs.vl_paths.specs.Touched.{touched}
use Rattle.vl_bits.specs.Masks.{in_parts, AreOf}
use Rattle.cell_level.specs.declared.nets.Net.{Net}
use Rattle.cell_level.specs.Nets as net
use Rattle.cell_level.specs.Netting.{IsNetOf, AreNetsOf}

module _ (names : Names) where
  pub nets-more : (as' : List Proc) (ns : List Net) (a : Proc) (n : Net) → AreNetsOf names as' ns → IsNetOf names a n → AreNetsOf names (as' ++ a ∷ []) (ns ++ n ∷ [])
  nets-more [] [] a n h k = (k, tt)
  nets-more [] (m ∷ ns) a n h k = absurd h
  nets-more (b ∷ as') [] a n h k = absurd h
  nets-more (b ∷ as') (m ∷ ns) a n h k = (h.0, nets-more as' ns a n h.1 k)

  pub nets-none : (ns : List Net) → ns ≡ [] → AreNetsOf names [] ns
  nets-none ns e = subst (AreNetsOf names []) (sym e) tt

  -- one process more of a list
  pub nets-next : (xs : List Process) (ns : List Net) (i : ℕ) (x : Process) (n : Net) → i < length xs → x ≡ get_or xs i x →
      AreNetsOf names (map proc_of (take i xs)) ns → IsNetOf names (proc_of x) n → AreNetsOf names (map proc_of (take (i + 1) xs)) (ns ++ n ∷ [])
  nets-next xs ns i x n l e h k =
      let all : map proc_of (take (i + 1) xs) ≡ map proc_of (take i xs) ++ proc_of x ∷ [] =
      ap (map proc_of) (take_more xs i x l ∙ ap (λ z. take i xs ++ z ∷ []) (sym e)) ∙ map-append proc_of (take i xs) (x ∷ []) in
      subst (λ as'. AreNetsOf names as' (ns ++ n ∷ [])) (sym all) (nets-more (map proc_of (take i xs)) ns (proc_of x) n h k)

  pub nets-all : (xs : List Process) (ns : List Net) (i : ℕ) → length xs ≤ i → AreNetsOf names (map proc_of (take i xs)) ns → AreNetsOf names (map proc_of xs) ns
  nets-all xs ns i l h = subst (λ ys. AreNetsOf names (map proc_of ys) ns) (take_all i xs l) h

  pub nets-length : (as' : List Proc) (ns : List Net) → AreNetsOf names as' ns → length ns ≡ length as'
  nets-length [] [] h = refl
  nets-length [] (m ∷ ns) h = absurd h
  nets-length (b ∷ as') [] h = absurd h
  nets-length (b ∷ as') (m ∷ ns) h = ap suc (nets-length as' ns h.1)

  pub nets-within : (as' : List Proc) (ns : List Net) → AreNetsOf names as' ns → net.AreNets (length names.rows) ns
  nets-within [] [] h = All-nil (λ n. AreOf (length names.rows) n.reads.items × AreOf (length names.rows) n.drives.items)
  nets-within [] (m ∷ ns) h = absurd h
  nets-within (b ∷ as') [] h = absurd h
  nets-within (b ∷ as') (m ∷ ns) h =
      All-cons (λ (n : Net). AreOf (length names.rows) n.reads.items × AreOf (length names.rows) n.drives.items) m ns (h.0.reads_within, h.0.drives_within) (nets-within as' ns h.1)

  -- the process of a number
  abbrev at : List Proc → ℕ → Proc
  at as' p = slice_index_or as' p (record { kind = Init; events = []; body = Nop })

  pub nets-drive : (as' : List Proc) (ns : List Net) → AreNetsOf names as' ns → (p : ℕ) (b : Bit) → net.drives ns p b ≡ (is_comb (at as' p).kind && touched names b (at as' p).body)
  nets-drive [] [] h p b = refl
  nets-drive [] (m ∷ ns) h p b = absurd h
  nets-drive (a ∷ as') [] h p b = absurd h
  nets-drive (a ∷ as') (m ∷ ns) h zero b = h.0.drives b
  nets-drive (a ∷ as') (m ∷ ns) h (suc p) b = nets-drive as' ns h.1 p b

  pub nets-read : (as' : List Proc) (ns : List Net) → AreNetsOf names as' ns → (p : ℕ) (b : Bit) → net.reads ns p b ≡ (is_comb (at as' p).kind && early names b (at as' p).body)
  nets-read [] [] h p b = refl
  nets-read [] (m ∷ ns) h p b = absurd h
  nets-read (a ∷ as') [] h p b = absurd h
  nets-read (a ∷ as') (m ∷ ns) h zero b = h.0.reads b
  nets-read (a ∷ as') (m ∷ ns) h (suc p) b = nets-read as' ns h.1 p b
