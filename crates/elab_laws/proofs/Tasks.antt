-- Calls of `$save` without faults have names that are fit for files.
use Rattle.std.proofs.Common.{◌≡◌, ℕ, Bool, true, false, true≢false, if◌then◌else◌, List, [], ◌∷◌, Option, Some, None, refl, sym, ap, subst}
use Rattle.std.specs.Prelude.{not, codes}
use Rattle.std.specs.Str.{bytes_eq}
use Rattle.vl_sound.specs.vl_tree.specs.declared.tree.Expression.{Expression}
use Rattle.vl_sound.specs.vl_tree.specs.declared.tree.Primary as p
use Rattle.vl_sound.specs.vl_tree.specs.declared.tree.Primary.{Primary}
use Rattle.vl_sound.specs.vl_tree.specs.declared.tree.SystemArgument.{SystemArgument, out-SystemArgument}
use Rattle.vl_sound.specs.vl_scope.specs.declared.kind.Kind.{Kind}
use Rattle.vl_sound.specs.vl_scope.proofs.Listed.{bytes_eq-to}
use Rattle.vl_sound.specs.vl_uses.specs.Alone as s
use Rattle.vl_sound.specs.vl_uses.specs.Calls as l
use Rattle.ten_plan.specs.vl_design.specs.Calls.{save_of, fopen_of, fread_of, file_of, read_hex_of, task_of}
use Rattle.ten_plan.specs.vl_design.specs.Formats.{Arg, Str, Value}
use Rattle.ten_plan.specs.vl_design.specs.Plainly as plain
use Rattle.ten_plan.specs.vl_design.specs.Syntax as d
use Rattle.vl_sound.specs.vl_flat.specs.Surface as x
use Rattle.vl_sound.specs.vl_flat.specs.Binding as f
use Rattle.vl_sound.specs.vl_flat.specs.Scopes.{Scope}
use Rattle.vl_sound.specs.vl_flat.specs.Expressions as e
use Rattle.vl_sound.specs.Used.{is_on_files}
use Rattle.vl_sound.proofs.Opens.{held, given, argument-opens}
use Rattle.vl_sound.proofs.Loading.{sole-is}
use Rattle.elab_laws.specs.Names.{is_named}
use Rattle.elab_laws.proofs.Nodes.{IsNamedTask}
use Rattle.elab_laws.proofs.Leaves.{IsNamedCall}

abbrev is_save : List ℕ → Bool
is_save name = bytes_eq name (codes "$save")

-- ---- other calls

chosen : (b : Bool) (x y : d.Task) → IsNamedTask x → IsNamedTask y → IsNamedTask (if b then x else y)
chosen true x y h k = h
chosen false x y h k = k

past : (b : Bool) (x y : d.Task) → b ≡ false → IsNamedTask y → IsNamedTask (if b then x else y)
past true x y h k = absurd (true≢false h)
past false x y h k = k

fopen-named : (xs : List Arg) → IsNamedTask (fopen_of xs)
fopen-named (Str name ∷ xs) = refl
fopen-named xs = refl

fread-named : (xs : List Arg) → IsNamedTask (fread_of xs)
fread-named (Value (d.Sig j) ∷ Value fd ∷ xs) = refl
fread-named xs = refl

hex-named : (xs : List Arg) → IsNamedTask (read_hex_of xs)
hex-named (Str name ∷ Value (d.Sig j) ∷ xs) = refl
hex-named xs = refl

file-named : (make : d.Exp → d.Task) → ((a : d.Exp) → IsNamedTask (make a)) → (xs : List Arg) → IsNamedTask (file_of make xs)
file-named make m (Value fd ∷ xs) = m fd
file-named make m xs = refl

pub other-named : (path name : List ℕ) (xs : List Arg) → is_save name ≡ false → IsNamedTask (task_of path name xs)
other-named path name xs h =
    chosen (bytes_eq name (codes "$display")) _ _ refl
    (chosen (bytes_eq name (codes "$write")) _ _ refl
    (chosen (bytes_eq name (codes "$finish")) _ _ refl
    (past (is_save name) (save_of xs) _ h
    (chosen (bytes_eq name (codes "$fopen")) (fopen_of xs) _ (fopen-named xs)
    (chosen (bytes_eq name (codes "$fread")) (fread_of xs) _ (fread-named xs)
    (chosen (bytes_eq name (codes "$fgetc")) (file_of d.Fgetc xs) _ (file-named d.Fgetc (λ a. refl) xs)
    (chosen (bytes_eq name (codes "$feof")) (file_of d.Feof xs) _ (file-named d.Feof (λ a. refl) xs)
    (chosen (bytes_eq name (codes "$fclose")) (file_of d.Fclose xs) _ (file-named d.Fclose (λ a. refl) xs)
    (chosen (bytes_eq name (codes "$readmemh")) (read_hex_of xs) (d.Print [] false) (hex-named xs) refl)))))))))

-- a call of a function on files is another
pub files-no-save : (name : List ℕ) → is_on_files name ≡ true → is_save name ≡ false
files-no-save name h = by (is_save name) refl
  where
    by : (c : Bool) → is_save name ≡ c → c ≡ false
    by false q = refl
    by true q = let z : ⊥ = cc (subst (λ n. is_on_files n ≡ true) (sym (bytes_eq-to name (codes "$save") q)) h) in absurd z

-- ---- calls of `$save`

-- the first argument is a name
abbrev IsName : x.Args → Type 0
IsName (x.MoreArgs (x.Text at text) others) = is_named text ≡ true
IsName given = ⊥

text-name : (q : Option Primary) (v : Expression) (others : x.Args) → s.sole v ≡ q → l.is_save_name (l.text_in q) ≡ true → IsName (x.MoreArgs (f.ex v) others)
text-name (Some (p.Str at text)) v others is h = subst (λ z. IsName (x.MoreArgs z others)) (sym (sole-is v (p.Str at text) is)) h
text-name q v others is h = absurd (true≢false (sym h))

held-name : (o : Option Expression) (others : x.Args) → l.is_save_name (l.text_in (l.sole_in o)) ≡ true → IsName (held o others)
held-name None others h = absurd (true≢false (sym h))
held-name (Some v) others h = text-name (s.sole v) v others refl h

save-name : (as' : Option (List SystemArgument)) → l.is_save as' ≡ true → IsName (given as')
save-name (Some (a ∷ [])) h = subst IsName (sym (argument-opens a x.NoArgs)) (held-name (out-SystemArgument a).argument x.NoArgs h)
save-name as' h = absurd (true≢false (sym h))

name-saves : (scope : Scope) (given : x.Args) → IsName given → IsNamedTask (save_of (plain.args (e.args scope true given)))
name-saves scope (x.MoreArgs (x.Text at text) others) h = ap not h
name-saves scope given h = absurd h

pub task-named : (means : List ℕ → Option Kind) (name : List ℕ) (as' : Option (List SystemArgument)) → l.is_task means name as' ≡ true → IsNamedCall name (given as')
task-named means name as' h = by (is_save name) refl
  where
    saves : l.is_task means (codes "$save") as' ≡ true → IsNamedCall (codes "$save") (given as')
    saves k path scope = name-saves scope (given as') (save-name as' k)

    by : (b : Bool) → is_save name ≡ b → IsNamedCall name (given as')
    by true is = let q = bytes_eq-to name (codes "$save") is in subst (λ n. IsNamedCall n (given as')) q (saves (subst (λ n. l.is_task means n as' ≡ true) (sym q) h))
    by false is = λ path scope. other-named path name (plain.args (e.args scope (e.keeps_texts name) (given as'))) is
