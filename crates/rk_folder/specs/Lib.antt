pub mod FolderDisk
pub mod HandsOn
