-- The error words of a summary stand in byte order, and none is left out.
use Rattle.std.proofs.Common.{refl, lit<}
use Rattle.wf_core.specs.declared.errno.Errno.{Errno}
use Rattle.wf_core.specs.declared.errno.Errno.TheVariants.{Enoent, Eexist, Enotdir, Eisdir, Enotempty, Einval, Eloop, Enametoolong, Ebadf, Emfile, Efbig, Enospc, Ebusy, Exdev, Eoverflow, Ecanceled, Enxio, Enotsup, Eagain}
use Rattle.std.specs.Prelude.{Contains}
use Rattle.run_engine.specs.Summary.{errors_in_order}
use Rattle.run_engine.specs.Laws.{ErrorsStandInOrder, Rise}

rises : Rise errors_in_order
unfolding errors_in_order
rises = (refl, (refl, (refl, (refl, (refl, (refl, (refl, (refl, (refl, (refl, (refl, (refl, (refl, (refl, (refl, (refl, (refl, (refl, tt))))))))))))))))))

contains : (error : Errno) → Contains errors_in_order error
unfolding errors_in_order
contains Enoent = (11, lit< tt, refl)
contains Eexist = (4, lit< tt, refl)
contains Enotdir = (13, lit< tt, refl)
contains Eisdir = (7, lit< tt, refl)
contains Enotempty = (14, lit< tt, refl)
contains Einval = (6, lit< tt, refl)
contains Eloop = (8, lit< tt, refl)
contains Enametoolong = (10, lit< tt, refl)
contains Ebadf = (1, lit< tt, refl)
contains Emfile = (9, lit< tt, refl)
contains Efbig = (5, lit< tt, refl)
contains Enospc = (12, lit< tt, refl)
contains Ebusy = (2, lit< tt, refl)
contains Exdev = (18, lit< tt, refl)
contains Eoverflow = (17, lit< tt, refl)
contains Ecanceled = (3, lit< tt, refl)
contains Enxio = (16, lit< tt, refl)
contains Enotsup = (15, lit< tt, refl)
contains Eagain = (0, lit< tt, refl)

pub in_order : ErrorsStandInOrder
in_order = (rises, contains)
