-- Document 01 as definitions that compute: all that a reader of the rules must believe, in the order in which to read it.
-- What a call is given and leaves, and the refusals before its own steps.
pub mod State
pub mod Checks
-- Ways to blocks, the lookup, new blocks.
pub mod Paths
pub mod Lookup
pub mod Free
-- The calls.
pub mod Open
pub mod Close
pub mod Copy
pub mod Turning
pub mod Copies
pub mod Turns
pub mod Seek
pub mod Adv
pub mod Nsert
pub mod NsertDone
pub mod Dlete
pub mod Xtend
pub mod XtendDone
-- Runs of calls, and the printed session.
pub mod Requests
pub mod Run
-- Not needed to read the rules: what the code below the session is promised and given, that is the form of its promises, and what a way that
-- passed its checks tells. No definition of a call rests on these.
pub mod Fits
pub mod Told
