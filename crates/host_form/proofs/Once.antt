-- What a store tells of a line is one tenant.
use Rattle.std.proofs.Common.{◌≡◌, ℕ, List, [], ◌∷◌, Option, Some, None, refl, sym, subst, ap₂, ◌∙◌}
use Rattle.host_text.specs.vl_base.specs.declared.files.File.{File}
use Rattle.host_text.specs.declared.script.FileLine.{FileLine}
use Rattle.host_text.specs.declared.script.TenantLine.{TenantLine}
use Rattle.fab_io.specs.Outside.{Files}
use Rattle.host_form.specs.Origins.{Source, Tenant, AreFilesAt, IsSnapshotAt, IsRead}
use Rattle.host_form.specs.Reports.{AreRead}
use Rattle.host_form.specs.Laws.{IsOneJudgement}

pub some_is : {X : Type 0} {x y : X} → ◌≡◌ {A = Option X} (Some x) (Some y) → x ≡ y
some_is h = cc

same_file : (f g : File) → f.name ≡ g.name → f.bytes ≡ g.bytes → f ≡ g
same_file f g n b = ap₂ (λ (name : List ℕ) (bytes : List ℕ). record { name = name; bytes = bytes }) n b

files-once : (told : Files) (ls : List FileLine) (fs gs : List File) → AreFilesAt told ls fs → AreFilesAt told ls gs → fs ≡ gs
files-once told [] [] [] h k = refl
files-once told [] [] (g ∷ gs) h k = absurd k
files-once told [] (f ∷ fs) gs h k = absurd h
files-once told (l ∷ ls) [] gs h k = absurd h
files-once told (l ∷ ls) (f ∷ fs) [] h k = absurd k
files-once told (l ∷ ls) (f ∷ fs) (g ∷ gs) h k =
    let first : f ≡ g = same_file f g (h.0 ∙ sym k.0) (some_is (sym h.1 ∙ k.1)) in
    ap₂ (λ x xs. x ∷ xs) first (files-once told ls fs gs h.2 k.2)

bytes-once : (told : Files) (path a b : Option (List ℕ)) → IsSnapshotAt told path a → IsSnapshotAt told path b → a ≡ b
bytes-once told None None None h k = refl
bytes-once told None None (Some y) h k = absurd k
bytes-once told None (Some x) b h k = absurd h
bytes-once told (Some path) None b h k = absurd h
bytes-once told (Some path) (Some x) None h k = absurd k
bytes-once told (Some path) (Some x) (Some y) h k = sym h ∙ k

pub read-once : (judged : List ℕ → Source → Type 0) (told : Files) (line : TenantLine) (t u : Tenant) → IsOneJudgement judged → IsRead judged told line t → IsRead judged told line u → t ≡ u
read-once judged told line t u one h k =
    let text : h.text ≡ k.text = some_is (sym h.there ∙ k.there) in
    let source : t.source ≡ u.source = one k.text t.source u.source (subst (λ x. judged x t.source) text h.source) k.source in
    let files = files-once told line.files t.files u.files h.files k.files in
    let bytes = bytes-once told line.resume t.snapshot u.snapshot h.snapshot k.snapshot in
    ap₂ (λ (l : TenantLine) (s : Source). record { line = l; source = s; files = t.files; snapshot = t.snapshot }) (h.is ∙ sym k.is) source
    ∙ ap₂ (λ (f : List File) (b : Option (List ℕ)). record { line = u.line; source = u.source; files = f; snapshot = b }) files bytes

pub all-read-once : (judged : List ℕ → Source → Type 0) (told : Files) (ls : List TenantLine) (ts us : List Tenant) → IsOneJudgement judged → AreRead judged told ls ts → AreRead judged told ls us → ts ≡ us
all-read-once judged told [] [] [] one h k = refl
all-read-once judged told [] [] (u ∷ us) one h k = absurd k
all-read-once judged told [] (t ∷ ts) us one h k = absurd h
all-read-once judged told (l ∷ ls) [] us one h k = absurd h
all-read-once judged told (l ∷ ls) (t ∷ ts) [] one h k = absurd k
all-read-once judged told (l ∷ ls) (t ∷ ts) (u ∷ us) one h k =
    ap₂ (λ x xs. x ∷ xs) (read-once judged told l t u one h.0 k.0) (all-read-once judged told ls ts us one h.1 k.1)
