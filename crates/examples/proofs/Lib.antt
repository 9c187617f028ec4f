pub mod StarredLaws
