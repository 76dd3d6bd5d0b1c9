-- Claims: all of these. FilesInMemory and SinkInMemory are of the files and the sink in memory, SureReads of the files whose reads do not fail.
pub mod Causes
pub mod Reads
pub mod Puts
pub mod FilesInMemory
pub mod SinkInMemory
pub mod SureReads
