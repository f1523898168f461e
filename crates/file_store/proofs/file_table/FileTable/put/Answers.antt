use Rattle.std.proofs.Common.{◌≡◌, ◌+◌, ℕ, List, Option, Some, None, unwrap_or, length, max, refl, sym, ap, subst, ◌∙◌, rules}
use Rattle.wf_core.specs.declared.errno.Errno.{Errno}
use Rattle.file_store.specs.declared.file.File.{File}
use Rattle.file_store.specs.FileBytes.{with_bytes_at}
use Rattle.file_store.specs.FileGroups.{with_bytes, put_refusal, refusal}
use Rattle.file_store.specs.Tables.{Table, row_at, with_row}
use Rattle.file_store.proofs.FileBytesLemmas.{length-overwritten}
use Rattle.file_store.proofs.file_table.FileTable.put.Goals as goal

-- the test of a size and an end is that of the bytes to be written
refused : (files : Table File) (id : ℕ) (was : File) (at : ℕ) (bytes : List ℕ) (end size : ℕ) (found : Option Errno) → end ≡ at + length bytes → size ≡ max (length was.bytes) end → ((new : File) → length new.bytes ≡ size → found ≡ refusal end (with_row files id new)) → found ≡ put_refusal files id was at bytes
refused files id was at bytes end size found e s h =
    h (record { bytes = with_bytes_at was.bytes at bytes; linked = was.linked }) (length-overwritten was.bytes at bytes ∙ ap (λ (n : ℕ). max (length was.bytes) n) (sym e) ∙ sym s)
    ∙ ap (λ (n : ℕ). refusal n (with_bytes files id was at bytes)) e

same_file : (a b : File) (found : Option File) → found ≡ Some a → found ≡ Some b → a ≡ b
same_file a b found ea eb = ap (λ (o : Option File). unwrap_or o a) (sym ea ∙ eb)

pub write-requires-clause-allowed : goal.write-requires-clause-allowed
write-requires-clause-allowed c = λ file e.
    let was = c.in-Some.file.now in
    let there : row_at c.args.self.now c.args.id ≡ Some was = search rules in
    let size = c.max-size.ensures ∙ ap (λ (n : ℕ). max n c.in-Some-checked_add.end) c.size.ensures in
    let test = refused c.args.self.now c.args.id was c.args.at c.args.bytes.now c.in-Some-checked_add.end c.max-size.result c.refusal.result c.in-Some-checked_add.ensures.1 size (rw there at c.refusal.ensures) in
    subst (λ (f : File). put_refusal c.args.self.now c.args.id f c.args.at c.args.bytes.now ≡ None) (same_file was file _ there e) (sym test ∙ c.in_default-refusal.is)

pub returns-in-Some-refusal-clause-ok : goal.returns-in-Some-refusal-clause-ok
returns-in-Some-refusal-clause-ok c =
    let was = c.in-Some.file.now in
    let there : row_at c.args.self.now c.args.id ≡ Some was = search rules in
    let size = c.max-size.ensures ∙ ap (λ (n : ℕ). max n c.in-Some-checked_add.end) c.size.ensures in
    let test = refused c.args.self.now c.args.id was c.args.at c.args.bytes.now c.in-Some-checked_add.end c.max-size.result c.refusal.result c.in-Some-checked_add.ensures.1 size (rw there at c.refusal.ensures) in
    rw there (sym c.in-Some-refusal.is ∙ test, refl)

pub returns-clause-ok : goal.returns-clause-ok
returns-clause-ok c =
    let was = c.in-Some.file.now in
    let there : row_at c.args.self.now c.args.id ≡ Some was = search rules in
    let size = c.max-size.ensures ∙ ap (λ (n : ℕ). max n c.in-Some-checked_add.end) c.size.ensures in
    let test = refused c.args.self.now c.args.id was c.args.at c.args.bytes.now c.in-Some-checked_add.end c.max-size.result c.refusal.result c.in-Some-checked_add.ensures.1 size (rw there at c.refusal.ensures) in
    rw there (sym c.in_default-refusal.is ∙ test, rw there at c.in_ok-write.ensures.ok)
