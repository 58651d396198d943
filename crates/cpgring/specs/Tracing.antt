-- The files of a trace.
use Rattle.cpgring.specs.declared.tracing.TraceFiles.{TraceFiles}

-- that of its commands
abbrev pub file_of : {F : Type 0} → TraceFiles F → F
file_of files = files.file
