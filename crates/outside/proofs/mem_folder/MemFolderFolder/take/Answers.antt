use Rattle.std.proofs.Common.{rules, refl, subst, ◌+◌, Contains}
use Rattle.outside.specs.MemFiles.{MemFiles}
use Rattle.outside.proofs.mem_folder.MemFolderFolder.take.Goals as goal

pub returns-then-count-clause-fails : goal.returns-then-count-clause-fails
returns-then-count-clause-fails c =
    let P : MemFiles → Type 0 = λ v. Contains v.fails (v.calls + 1) in
    let is = rw c.deref.ensures.value at c.if-count.ensures.fails in
    ((λ _. subst P c.self.view_is (is.0 refl)), (λ _. search rules))
