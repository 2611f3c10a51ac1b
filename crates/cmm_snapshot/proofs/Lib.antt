mod SnapshotLaws
mod ReadLaws
mod StateLaws
mod TakingLaws
mod WritingLaws
mod SnapshotRows
