-- Sites without faults: no loop variable is assigned beside the headers of its loops.
use Rattle.std.proofs.Common.{◌≡◌, refl, sym, ◌∙◌, subst, ℕ, zero, suc, Bool, true, false, List, [], ◌∷◌, map}
use Rattle.std.specs.Prelude.{◌++◌, ◌||◌, if◌then◌else◌, codes}
use Rattle.std.specs.List.{list_any}
use Rattle.std.specs.Str.{bytes_eq}
use Rattle.std.proofs.lemmas.List.Folds.{list_any-append}
use Rattle.std.proofs.lemmas.Slice.Eq.{bytes_eq-Decides}
use Rattle.vl_latch.specs.vl_base.specs.declared.place.Place.{Place}
use Rattle.vl_check.specs.vl_design.specs.declared.design.Signal.{Signal}
use Rattle.vl_check.specs.vl_design.specs.declared.design.SigKind.{SigKind}
use Rattle.vl_check.specs.vl_design.specs.declared.design.SigKind.TheVariants as k
use Rattle.vl_check.specs.vl_design.specs.Rows.{row_of}
use Rattle.vl_check.specs.vl_design.specs.Syntax as d
use Rattle.vl_check.specs.vl_design.specs.Formats as f
use Rattle.vl_check.specs.vl_design.specs.Calls.{task_of, save_of, fopen_of, file_of, fread_of, read_hex_of}
use Rattle.vl_check.specs.vl_design.specs.Reads.{target_writes, targets_write, task_writes}
use Rattle.vl_check.specs.vl_design.specs.Placed as p
use Rattle.vl_check.specs.vl_design.specs.Plainly as plain
use Rattle.vl_check.specs.vl_design.specs.Stops.{construct_if}
use Rattle.vl_check.specs.vl_sites.specs.Sites as s
use Rattle.vl_unroll.specs.vl_loops.specs.Unroll as t
use Rattle.vl_check.specs.Bodies.{kind_is}
use Rattle.vl_check.specs.Rules.{is_loop, sets}
pub use Rattle.vl_latch.specs.vl_base.proofs.Booleans.{or_left_false as or-left, or_right_false as or-right, or_both_false as or-both}
pub use Rattle.vl_latch.specs.vl_base.proofs.Lists.{append_none_right as right-none, append_none_left as left-none}
pub use Rattle.vl_check.specs.vl_design.proofs.Shared.{clear as not-stopped}

-- ---- lists

-- ---- kinds by rows

loop-kind : (kind : SigKind) → t.is_loop_kind kind ≡ is_loop kind
loop-kind k.Net = refl
loop-kind k.Var = refl
loop-kind k.Comb = refl
loop-kind k.Loop = refl
loop-kind k.Mem = refl
loop-kind k.Clock = refl

pub loop-is : (xs ys : List Signal) (j : ℕ) → t.is_loop (map row_of xs ++ map row_of ys) j ≡ kind_is is_loop (xs ++ ys) j
loop-is [] [] j = refl
loop-is [] (y ∷ ys) zero = loop-kind y.kind
loop-is [] (y ∷ ys) (suc j) = loop-is [] ys j
loop-is (x ∷ xs) ys zero = loop-kind x.kind
loop-is (x ∷ xs) ys (suc j) = loop-is xs ys j

-- ---- sites

module _ (P : ℕ → Bool) where
  -- no site assigns a signal that passes the test
  abbrev pub Clean : List s.Site → Type 0
  Clean xs = list_any (λ x. sets P x.what) xs ≡ false

  pub clean-left : (xs ys : List s.Site) → Clean (xs ++ ys) → Clean xs
  clean-left xs ys h = or-left (list_any (λ x. sets P x.what) xs) (list_any (λ x. sets P x.what) ys) (sym (list_any-append (λ x. sets P x.what) xs ys) ∙ h)

  pub clean-right : (xs ys : List s.Site) → Clean (xs ++ ys) → Clean ys
  clean-right xs ys h = or-right (list_any (λ x. sets P x.what) xs) (list_any (λ x. sets P x.what) ys) (sym (list_any-append (λ x. sets P x.what) xs ys) ∙ h)

  mutual
    pub target-clean : (later : Bool) (t : p.Target) → Clean (s.target_sites later t) → target_writes P (plain.target t) ≡ false
    target-clean later (p.Whole at k) h = or-left (P k) false h
    target-clean later (p.WordAt at m a) h = or-left (P m) (list_any (λ x. sets P x.what) (s.exp_sites a)) h
    target-clean later (p.PickAt at b i from w) h = target-clean later b (clean-left (s.target_sites later b) (s.exp_sites i) h)
    target-clean later (p.SliceAt at b low w) h = target-clean later b h
    target-clean later (p.Several at ts) h = targets-clean later ts h

    pub targets-clean : (later : Bool) (ts : p.Targets) → Clean (s.targets_sites later ts) → targets_write P (plain.targets ts) ≡ false
    targets-clean later p.NoTargets h = refl
    targets-clean later (p.MoreTargets t ts) h =
        or-both (target_writes P (plain.target t)) (targets_write P (plain.targets ts)) (target-clean later t (clean-left (s.target_sites later t) (s.targets_sites later ts) h)) (targets-clean later ts (clean-right (s.target_sites later t) (s.targets_sites later ts) h))

  -- ---- system calls

  fill-clean : (given : p.Args) → Clean (s.first_bare false given) → task_writes P (fread_of (plain.args given)) ≡ false
  fill-clean p.NoArgs h = refl
  fill-clean (p.NullArg others) h = refl
  fill-clean (p.TextArg text others) h = refl
  fill-clean (p.ValueArg (p.Sig at k) p.NoArgs) h = refl
  fill-clean (p.ValueArg (p.Sig at k) (p.NullArg others)) h = refl
  fill-clean (p.ValueArg (p.Sig at k) (p.TextArg text others)) h = refl
  fill-clean (p.ValueArg (p.Sig at k) (p.ValueArg fd others)) h = or-left (P k) false h
  fill-clean (p.ValueArg (p.Num at v w signed) others) h = refl
  fill-clean (p.ValueArg (p.Label at v care w signed) others) h = refl
  fill-clean (p.ValueArg (p.Word at m a) others) h = refl
  fill-clean (p.ValueArg (p.Pick at b i from w) others) h = refl
  fill-clean (p.ValueArg (p.Slice at b low w) others) h = refl
  fill-clean (p.ValueArg (p.Un at op a) others) h = refl
  fill-clean (p.ValueArg (p.Bin at op a b) others) h = refl
  fill-clean (p.ValueArg (p.Cond at c a b) others) h = refl
  fill-clean (p.ValueArg (p.Cat at es) others) h = refl
  fill-clean (p.ValueArg (p.Rep at n es) others) h = refl
  fill-clean (p.ValueArg (p.Cast at signed a) others) h = refl
  fill-clean (p.ValueArg (p.Call at g es) others) h = refl
  fill-clean (p.ValueArg (p.Time at) others) h = refl
  fill-clean (p.ValueArg (p.Sys at name given) others) h = refl

  load-clean : (given : p.Args) → Clean (s.loaded given) → task_writes P (read_hex_of (plain.args given)) ≡ false
  load-clean p.NoArgs h = refl
  load-clean (p.NullArg others) h = refl
  load-clean (p.ValueArg e others) h = refl
  load-clean (p.TextArg text p.NoArgs) h = refl
  load-clean (p.TextArg text (p.NullArg others)) h = refl
  load-clean (p.TextArg text (p.TextArg more others)) h = refl
  load-clean (p.TextArg text (p.ValueArg (p.Sig at k) others)) h = or-left (P k) false h
  load-clean (p.TextArg text (p.ValueArg (p.Num at v w signed) others)) h = refl
  load-clean (p.TextArg text (p.ValueArg (p.Label at v care w signed) others)) h = refl
  load-clean (p.TextArg text (p.ValueArg (p.Word at m a) others)) h = refl
  load-clean (p.TextArg text (p.ValueArg (p.Pick at b i from w) others)) h = refl
  load-clean (p.TextArg text (p.ValueArg (p.Slice at b low w) others)) h = refl
  load-clean (p.TextArg text (p.ValueArg (p.Un at op a) others)) h = refl
  load-clean (p.TextArg text (p.ValueArg (p.Bin at op a b) others)) h = refl
  load-clean (p.TextArg text (p.ValueArg (p.Cond at c a b) others)) h = refl
  load-clean (p.TextArg text (p.ValueArg (p.Cat at es) others)) h = refl
  load-clean (p.TextArg text (p.ValueArg (p.Rep at n es) others)) h = refl
  load-clean (p.TextArg text (p.ValueArg (p.Cast at signed a) others)) h = refl
  load-clean (p.TextArg text (p.ValueArg (p.Call at g es) others)) h = refl
  load-clean (p.TextArg text (p.ValueArg (p.Time at) others)) h = refl
  load-clean (p.TextArg text (p.ValueArg (p.Sys at name given) others)) h = refl

  -- what the other calls are writes nothing
  save-writes : (args : List f.Arg) → task_writes P (save_of args) ≡ false
  save-writes [] = refl
  save-writes (f.Null ∷ args) = refl
  save-writes (f.Str name ∷ args) = refl
  save-writes (f.Value e ∷ args) = refl

  fopen-writes : (args : List f.Arg) → task_writes P (fopen_of args) ≡ false
  fopen-writes [] = refl
  fopen-writes (f.Null ∷ args) = refl
  fopen-writes (f.Str name ∷ args) = refl
  fopen-writes (f.Value e ∷ args) = refl

  file-writes : (make : d.Exp → d.Task) → ((e : d.Exp) → task_writes P (make e) ≡ false) → (args : List f.Arg) → task_writes P (file_of make args) ≡ false
  file-writes make h [] = refl
  file-writes make h (f.Null ∷ args) = refl
  file-writes make h (f.Str name ∷ args) = refl
  file-writes make h (f.Value e ∷ args) = h e

  pub call-clean : (path name : List ℕ) (given : p.Args) → Clean (s.call_sites name given (s.args_sites given)) → task_writes P (task_of path name (plain.args given)) ≡ false
  call-clean path name given h =
      pick (bytes_eq name (codes "$display")) _ _ refl (pick (bytes_eq name (codes "$write")) _ _ refl (pick (bytes_eq name (codes "$finish")) _ _ refl
      (pick (bytes_eq name (codes "$save")) _ _ (save-writes (plain.args given)) (pick (bytes_eq name (codes "$fopen")) _ _ (fopen-writes (plain.args given))
      (fread (bytes_eq name (codes "$fread")) refl)))))
    where
      pick : (b : Bool) (x y : d.Task) → task_writes P x ≡ false → task_writes P y ≡ false → task_writes P (if b then x else y) ≡ false
      pick true x y h k = h
      pick false x y h k = k

      -- `$fread` is no `$readmemh`
      filled : bytes_eq name (codes "$fread") ≡ true → Clean (s.first_bare false given)
      filled e =
          let n : name ≡ codes "$fread" = (bytes_eq-Decides name (codes "$fread")).0 e in
          clean-left (s.first_bare false given) (s.args_sites given) (subst (λ (z : List ℕ). Clean (s.call_sites z given (s.args_sites given))) n h)

      load : (b : Bool) → bytes_eq name (codes "$readmemh") ≡ b → task_writes P (if b then read_hex_of (plain.args given) else d.Print [] false) ≡ false
      load false e = refl
      load true e = load-clean given (subst (λ (z : Bool). Clean (if z then s.loaded given else (if s.is_fill name then s.first_bare false given else []) ++ s.args_sites given)) e h)

      fread : (b : Bool) → bytes_eq name (codes "$fread") ≡ b → task_writes P (if b then fread_of (plain.args given)
          else if bytes_eq name (codes "$fgetc") then file_of d.Fgetc (plain.args given)
          else if bytes_eq name (codes "$feof") then file_of d.Feof (plain.args given)
          else if bytes_eq name (codes "$fclose") then file_of d.Fclose (plain.args given)
          else if bytes_eq name (codes "$readmemh") then read_hex_of (plain.args given)
          else d.Print [] false) ≡ false
      fread true e = fill-clean given (filled e)
      fread false e =
          pick (bytes_eq name (codes "$fgetc")) _ _ (file-writes d.Fgetc (λ e. refl) (plain.args given)) (pick (bytes_eq name (codes "$feof")) _ _ (file-writes d.Feof (λ e. refl) (plain.args given))
          (pick (bytes_eq name (codes "$fclose")) _ _ (file-writes d.Fclose (λ e. refl) (plain.args given)) (load (bytes_eq name (codes "$readmemh")) refl)))
