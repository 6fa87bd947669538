pub mod CopyingLaws
pub mod ChainIndex
pub mod ChainIndexLaws
