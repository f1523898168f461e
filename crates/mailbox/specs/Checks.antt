-- What comes of serving the notices of a mailbox.
use Rattle.std.specs.Prelude.{◌≡◌, ℕ, ◌+◌, None, List}
use Rattle.proxy_laws.specs.declared.records.Started.TheVariants as started
use Rattle.post_core.specs.declared.meant.Meant.{Ghosts}
use Rattle.post_core.specs.declared.post.Post.{Post}
use Rattle.post_core.specs.declared.views.View.{View}
use Rattle.post_core.specs.MailSteps.{words_empty}
use Rattle.post_core.specs.OwnerViews.{IsExecOf, IsOwnerOf, exec_place, exec_view, owner_view}
use Rattle.post_core.specs.SendParts.{HasPlace}
use Rattle.post_core.specs.Views.{owner_of}
use Rattle.mailbox.specs.declared.calls.RunCall.{RunCall}
use Rattle.mailbox.specs.declared.calls.RunJob.{RunJob}
use Rattle.mailbox.specs.declared.checking.Checked.{Checked}
use Rattle.mailbox.specs.declared.checking.Checked.TheVariants as checked
use Rattle.mailbox.specs.declared.checking.Served.{Served}
use Rattle.mailbox.specs.declared.checking.Served.TheVariants as served
use Rattle.mailbox.specs.Turns.{HasFoundNothing, IsStartAfter, NoneRun, WereRun}

module _ {J M T R : Type 0} {g : Ghosts J M} (did : R → List (RunCall M T) → R → Type 0) (held : R → List (RunJob M)) (target : ℕ) where
  -- no notice was found; or one was got, and started the jobs that were run
  abbrev pub IsServed : Post J M → R → R → View M → Served J M g → Type 0
  IsServed post r r' v (served.Nothing owner) = IsOwnerOf post owner × (owner_view owner ≡ words_empty 4 v) × NoneRun did held target r r'
  IsServed post r r' v (served.Place owner) = IsOwnerOf post owner × ((owner_of (owner_view owner)).got ≡ (owner_of v).got + 1) × ((n : ℕ) × WereRun did held target (λ s. s ≡ started.Notice ((owner_of v).got + 1)) n r r' v (owner_view owner))
  IsServed post r r' v (served.NoMemory exec) = IsExecOf post exec × HasPlace post (exec_place exec) × ((n : ℕ) × WereRun did held target (λ s. s ≡ started.Notice ((owner_of v).got + 1)) n r r' v (exec_view exec))

  -- notices were got, and started the jobs that were run; in the end none was found, or memory was wanting
  abbrev pub IsChecked : Post J M → R → R → View M → Checked J M g → Type 0
  IsChecked post r r' v (checked.Nothing owner count) = IsOwnerOf post owner × HasFoundNothing count v (owner_view owner) × ((n : ℕ) × WereRun did held target (IsStartAfter None (owner_of v).got) n r r' v (owner_view owner))
  IsChecked post r r' v (checked.NoMemory exec) = IsExecOf post exec × HasPlace post (exec_place exec) × ((n : ℕ) × WereRun did held target (IsStartAfter None (owner_of v).got) n r r' v (exec_view exec))
