-- The error words of file calls, after POSIX.1-2017, XBD <errno.h>.
use Rattle.std.specs.Prelude.{ℕ, List, codes}
use Rattle.wf_core.specs.declared.errno.Errno.{Errno}
use Rattle.wf_core.specs.declared.errno.Errno.TheVariants.{Enoent, Eexist, Enotdir, Eisdir, Enotempty, Einval, Eloop, Enametoolong, Ebadf, Emfile, Efbig, Enospc, Ebusy, Exdev, Eoverflow, Ecanceled, Enxio, Enotsup, Eagain}

-- an error's word in capital letters
abbrev pub error_word : Errno → List ℕ
error_word Enoent = codes "ENOENT"
error_word Eexist = codes "EEXIST"
error_word Enotdir = codes "ENOTDIR"
error_word Eisdir = codes "EISDIR"
error_word Enotempty = codes "ENOTEMPTY"
error_word Einval = codes "EINVAL"
error_word Eloop = codes "ELOOP"
error_word Enametoolong = codes "ENAMETOOLONG"
error_word Ebadf = codes "EBADF"
error_word Emfile = codes "EMFILE"
error_word Efbig = codes "EFBIG"
error_word Enospc = codes "ENOSPC"
error_word Ebusy = codes "EBUSY"
error_word Exdev = codes "EXDEV"
error_word Eoverflow = codes "EOVERFLOW"
error_word Ecanceled = codes "ECANCELED"
error_word Enxio = codes "ENXIO"
error_word Enotsup = codes "ENOTSUP"
error_word Eagain = codes "EAGAIN"
