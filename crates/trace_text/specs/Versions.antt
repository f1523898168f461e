-- The versions of a trace, and the line with which each begins.
use Rattle.std.specs.Prelude.{ℕ, if◌then◌else◌, List, Option, None, Some, codes}
use Rattle.wf_core.specs.Names.{is_text}
use Rattle.trace_text.specs.declared.version.Version.{Version}
use Rattle.trace_text.specs.declared.version.Version.TheVariants.{One, Two}

abbrev pub version_number : Version → ℕ
version_number One = 1
version_number Two = 2

-- line 1
abbrev pub header : Version → List ℕ
header One = codes "wasmfs-trace 1"
header Two = codes "wasmfs-trace 2"

-- the version of the traces that begin with a line
abbrev pub version_in : List ℕ → Option Version
version_in line =
    if is_text line (header One) then Some One
    else if is_text line (header Two) then Some Two
    else None
